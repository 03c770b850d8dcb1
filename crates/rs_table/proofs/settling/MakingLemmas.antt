-- The cells of a compacted list, change by change: for `Making` and `cells_of` of settling.rt.
use Rattle.std.proofs.Common.{◌≡◌, ◌≢◌, ℕ, ◌+◌, ◌<◌, ◌≤◌, Bool, true, false, cond, ◌&&◌, ◌==◌, List, [], ◌∷◌, ◌++◌, All, Option, Some, refl}
use Rattle.std.proofs.Common.{sym, ap, subst, ◌∙◌, arith, inl, inr}
use Rattle.std.specs.Prelude.{◌⊎◌, nat_lt, slice_get}
use Rattle.std.specs.Cmp.{tied_itself}
use Rattle.std.specs.Ordering.{nat_cmp, ordering_then, ordering_reverse}
use Rattle.std.specs.declared.cmp.Ordering.{Ordering}
use Rattle.std.specs.declared.cmp.Ordering.TheVariants.{Less, Equal, Greater}
use Rattle.std.proofs.lemmas.Bool.{cases_Bool, and_right}
use Rattle.std.specs.List.Sorted.{IsStrictlySortedBy}
use Rattle.std.proofs.lemmas.Bool.Decides.{eqb_tells, nat_tests}
use Rattle.std.proofs.lemmas.List.Elements.{All-cons, All-from_recursion, All-weaker}
use Rattle.rs_types.specs.IpPrefix.{IpPrefix}
use Rattle.rs_types.specs.PrefixOrder.{prefix_cmp, same_prefix}
use Rattle.rs_choice.specs.Decision.{SentRoute}
use Rattle.rs_table.specs.ByPeer.{IsRow, route_at}
use Rattle.rs_table.specs.Left.{RouteLeft}
use Rattle.rs_table.specs.Logged.{Logged}
use Rattle.rs_table.specs.declared.settling.Making.{Making}
use Rattle.rs_table.specs.Cells.{Entries, routes_at}
use Rattle.rs_table.specs.Gathered.{counts, entry_route, is_current, is_of, logged_cmp}
use Rattle.rs_table.specs.Making.{routes_here, routes_so_far, IsBefore, IsNext}
use Rattle.rs_table.proofs.PrefixLemmas.{prefix_total, same_prefix-true}

-- ---- a route behind those of lower peers

abbrev left_of : SentRoute → RouteLeft
left_of route = record { time = route.time; attributes = route.attributes }

pub route_at-behind : (from : ℕ) (routes : List SentRoute) (route : SentRoute) → IsRow from route.peer routes → (peer : ℕ)
    → route_at (routes ++ route ∷ []) peer ≡ cond (route.peer == peer) (Some (left_of route)) (route_at routes peer)
route_at-behind from [] route row peer = refl
route_at-behind from (first ∷ later) route row peer =
    elim (eqb_tells first.peer peer) [
      | inl here ↦ elim (eqb_tells route.peer peer) [
        | inl both ↦ absurd (omega (arith, here.1, both.1, row.1))
        | inr apart ↦ rw (here.0, apart.0) refl
      ]
      | inr there ↦ rw there.0 (route_at-behind (first.peer + 1) later route row.2 peer)
    ]

pub IsRow-behind : (from to : ℕ) (routes : List SentRoute) (route : SentRoute) → IsRow from route.peer routes → from ≤ route.peer
    → route.peer < to → IsRow from to (routes ++ route ∷ [])
IsRow-behind from to [] route row lo hi = (lo, hi, tt)
IsRow-behind from to (first ∷ later) route row lo hi =
    (row.0, omega (arith, row.1, hi), IsRow-behind (first.peer + 1) to later route row.2 (omega (arith, row.1)) hi)

-- ---- the order of changes

less-parts : (r s : Ordering) → ordering_then r s ≡ Less → (r ≡ Less) ⊎ ((r ≡ Equal) × (s ≡ Less))
less-parts Less s e = inl refl
less-parts Equal s e = inr (refl, e)
less-parts Greater s e = absurd (cc e)

reversed-less : (r : Ordering) → ordering_reverse r ≡ Less → r ≡ Greater
reversed-less Less e = absurd (cc e)
reversed-less Equal e = absurd (cc e)
reversed-less Greater e = refl

nat-below : (x y : ℕ) → nat_cmp x y ≡ Less → x < y
nat-below x y e =
    elim (cases_Bool (nat_lt x y)) [
      | inl less ↦ grind (arith, nat_tests)
      | inr not_less ↦ absurd (by_eq (x == y) (rw not_less at e))
    ]
  where
    by_eq : (b : Bool) → cond b Equal Greater ≡ Less → ⊥
    by_eq true e = cc e
    by_eq false e = cc e

-- a later change is on no prefix before
pub ascends-later : (one later : Logged) → IsBefore one later → prefix_cmp later.prefix one.prefix ≢ Less
ascends-later one later before less =
    let greater : prefix_cmp one.prefix later.prefix ≡ Greater =
    reversed-less (prefix_cmp one.prefix later.prefix) (sym (prefix_total.antisymm later.prefix one.prefix) ∙ less) in
    elim (less-parts (prefix_cmp one.prefix later.prefix) (nat_cmp one.peer later.peer) before) [
      | inl is_less ↦ cc (sym greater ∙ is_less)
      | inr tied ↦ cc (sym greater ∙ tied.0)
    ]

-- and on the same one of a later peer
pub peer-later : (one later : Logged) → IsBefore one later → same_prefix later.prefix one.prefix ≡ true → one.peer < later.peer
peer-later one later before same =
    let tied : prefix_cmp one.prefix later.prefix ≡ Equal =
    ap (prefix_cmp one.prefix) (same_prefix-true later.prefix one.prefix same) ∙ tied_itself prefix_total one.prefix in
    elim (less-parts (prefix_cmp one.prefix later.prefix) (nat_cmp one.peer later.peer) before) [
      | inl is_less ↦ absurd (cc (sym tied ∙ is_less))
      | inr is_tied ↦ nat-below one.peer later.peer is_tied.1
    ]

-- ---- a change comes to the routes on its prefix

pub added : (making : Making) (later : List SentRoute) (one : SentRoute) (entry : Logged) → later ≡ routes_here making ++ one ∷ []
    → one.peer ≡ entry.peer → entry_route entry ≡ Some (left_of one)
    → making.prefix ≡ entry.prefix → IsRow 0 entry.peer (routes_here making) → (peer : ℕ) (q : IpPrefix)
    → route_at (cond (same_prefix q making.prefix) later (routes_at making.cells.entries q)) peer
    ≡ cond (is_of peer q entry) (entry_route entry) (route_at (routes_so_far making q) peer)
added making later one entry later_is peer_is route_is prefix_is row peer q =
    let before : Option RouteLeft = route_at (routes_here making) peer in
    elim (cases_Bool (same_prefix q making.prefix)) [
      | inl here ↦
          let is : same_prefix q entry.prefix ≡ true = subst (λ p. same_prefix q p ≡ true) prefix_is here in
          rw (here, is) (ap (λ routes. route_at routes peer) later_is
          ∙ route_at-behind 0 (routes_here making) one (subst (λ (n : ℕ). IsRow 0 n (routes_here making)) (sym peer_is) row) peer
          ∙ ap (λ (n : ℕ). cond (n == peer) (Some (left_of one)) before) peer_is
          ∙ ap (λ (o : Option RouteLeft). cond (entry.peer == peer) o before) (sym route_is)
          ∙ by_test (entry.peer == peer) (entry_route entry) before)
      | inr there ↦
          let is : same_prefix q entry.prefix ≡ false = subst (λ p. same_prefix q p ≡ false) prefix_is there in
          rw (there, is, and_right (entry.peer == peer) false refl) refl
    ]
  where
    by_test : (b : Bool) (x y : Option RouteLeft) → cond b x y ≡ cond (b && true) x y
    by_test true x y = refl
    by_test false x y = refl

-- what is current counts where it is of a peer and a prefix
pub current-counts : (losses : List ℕ) (peer : ℕ) (q : IpPrefix) (entry : Logged) → is_current losses entry ≡ true
    → is_of peer q entry ≡ counts losses peer q entry
current-counts losses peer q entry current = by_test (is_of peer q entry) (is_current losses entry) current
  where
    by_test : (a b : Bool) → b ≡ true → a ≡ (a && b)
    by_test true b e = sym e
    by_test false b e = refl

-- a change of a sorted list is before all behind it
pub sorted-head : (entry : Logged) (rest : List Logged) → IsStrictlySortedBy logged_cmp (entry ∷ rest) → All (IsBefore entry) rest
unfolding IsStrictlySortedBy
sorted-head entry rest sorted = All-from_recursion (IsBefore entry) rest sorted.0

pub sorted-tail : (entry : Logged) (rest : List Logged) → IsStrictlySortedBy logged_cmp (entry ∷ rest) → IsStrictlySortedBy logged_cmp rest
unfolding IsStrictlySortedBy
sorted-tail entry rest sorted = sorted.1

-- at first all changes of a list may come next, where the prefix is that of the first one
first-next : (making : Making) (entry : Logged) (rest : List Logged) → IsStrictlySortedBy logged_cmp (entry ∷ rest)
    → making.prefix ≡ entry.prefix → routes_here making ≡ [] → All (IsNext making) (entry ∷ rest)
first-next making entry rest sorted prefix_is empty =
    All-cons (IsNext making) entry rest
    (next entry (λ less. cc (sym (tied_itself prefix_total entry.prefix) ∙ less)))
    (All-weaker (IsBefore entry) (IsNext making) (λ later before. next later (ascends-later entry later before)) rest
    (sorted-head entry rest sorted))
  where
    next : (later : Logged) → prefix_cmp later.prefix entry.prefix ≢ Less → IsNext making later
    next later ascends = record {
      ascends = subst (λ p. prefix_cmp later.prefix p ≢ Less) (sym prefix_is) ascends;
      above = λ same. subst (IsRow 0 later.peer) (sym empty) tt;
    }

pub all-next : (making : Making) (entries : List Logged) (first : Logged) → slice_get entries 0 ≡ Some first
    → IsStrictlySortedBy logged_cmp entries → making.prefix ≡ first.prefix → routes_here making ≡ [] → All (IsNext making) entries
all-next making [] first is sorted prefix_is empty = absurd (cc is)
all-next making (entry ∷ rest) first is sorted prefix_is empty =
    let same : entry ≡ first = cc is in
    first-next making entry rest sorted (prefix_is ∙ ap (λ (logged : Logged). logged.prefix) (sym same)) empty

-- and no prefix has a route yet
pub none-yet : (making : Making) (q : IpPrefix) → routes_here making ≡ [] → making.cells.entries ≡ [] → routes_so_far making q ≡ []
none-yet making q empty no_cells =
    elim (cases_Bool (same_prefix q making.prefix)) [
      | inl here ↦ rw here empty
      | inr there ↦ rw there (ap (λ (entries : Entries). routes_at entries q) no_cells)
    ]
