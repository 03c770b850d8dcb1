-- What a list leaves once it is compacted: for `compact` of log.rt.
use Rattle.std.proofs.Common.{◌≡◌, ℕ, Bool, true, false, cond, not, ◌&&◌, ◌==◌, List, [], ◌∷◌, ◌++◌, reverse, filter, All, Option, Some}
use Rattle.std.proofs.Common.{None, refl, sym, ap, subst, ◌∙◌, inl, inr}
use Rattle.std.specs.Cmp.{IsStrictWeakOrder, IsTotalOrder, Equal-is, nat_cmp_total, on_total, then_total, tied_itself}
use Rattle.std.specs.FinMap.{nat_cmp-IsAntisymmetric}
use Rattle.std.specs.List.{find, list_any, dedup, dedup_from, AllByRecursion}
use Rattle.std.specs.List.Sorted.{IsPermutation, IsSortedBy, IsStableBy, IsStrictlySortedBy, ties}
use Rattle.std.specs.Option.{is_some, option_map, option_map_or, option_or}
use Rattle.std.specs.Ordering.{is_eq, is_lt, nat_cmp, ordering_reverse, ordering_then}
use Rattle.std.specs.declared.cmp.Ordering.{Ordering}
use Rattle.std.specs.declared.cmp.Ordering.TheVariants.{Less, Equal, Greater}
use Rattle.std.proofs.lemmas.Bool.{cases_Bool, and_right, eq-eqb, or_parts}
use Rattle.std.proofs.lemmas.Bool.Decides.{eqb_tells}
use Rattle.std.proofs.lemmas.List.{reverse-append}
use Rattle.std.proofs.lemmas.List.Elements.{All-filter, All-head, All-tail, All-weaker, filter-append, filter_passes}
use Rattle.std.proofs.lemmas.List.Kept.{IsStrictlySortedBy-dedup, IsStrictlySortedBy-filter}
use Rattle.std.proofs.lemmas.List.Filters.{All-dedup}
use Rattle.std.proofs.lemmas.List.MinMax.{ranks_by}
use Rattle.std.proofs.lemmas.List.Sorted.{All-permutation, IsPermutation-reverse}
use Rattle.rs_types.specs.IpPrefix.{IpPrefix}
use Rattle.rs_types.specs.PrefixOrder.{prefix_cmp, same_prefix}
use Rattle.rs_table.specs.Logged.{Logged}
use Rattle.rs_table.specs.Left.{RouteLeft}
use Rattle.rs_table.specs.Gathered.{announces, counts, entry_route, is_current, is_of, left_in, logged_cmp, IsAnnounced}
use Rattle.rs_table.proofs.LeftLemmas.{find_last_more, find_none, list_any-reverse, or_none}
use Rattle.rs_table.proofs.PrefixLemmas.{prefix_total}

-- ---- searches and filters

find-filter : {X : Type 0} (p keeps : X → Bool) (xs : List X) → find p (filter keeps xs) ≡ find (λ x. p x && keeps x) xs
find-filter p keeps [] = refl
find-filter p keeps (x ∷ xs) =
    elim (cases_Bool (keeps x)) [
      | inl stays ↦ rw stays (by_test (p x) (find-filter p keeps xs))
      | inr goes ↦ rw (goes, and_right (p x) false refl) (find-filter p keeps xs)
    ]
  where
    by_test : (b : Bool) → find p (filter keeps xs) ≡ find (λ x. p x && keeps x) xs
        → cond b (Some x) (find p (filter keeps xs)) ≡ cond (b && true) (Some x) (find (λ x. p x && keeps x) xs)
    by_test true rest = refl
    by_test false rest = rest

find-first : {X : Type 0} (p : X → Bool) (xs : List X) → find p (filter p xs) ≡ find p xs
find-first p [] = refl
find-first p (x ∷ xs) = elim (cases_Bool (p x)) [ inl here ↦ rw (here, here) refl | inr there ↦ rw there (find-first p xs) ]

filter-agree : {X : Type 0} (p q : X → Bool) → ((x : X) → p x ≡ q x) → (xs : List X) → filter p xs ≡ filter q xs
filter-agree p q agree [] = refl
filter-agree p q agree (x ∷ xs) = rw (agree x) (ap (λ rest. cond (q x) (x ∷ rest) rest) (filter-agree p q agree xs))

filter-reverse : {X : Type 0} (keeps : X → Bool) (xs : List X) → filter keeps (reverse xs) ≡ reverse (filter keeps xs)
filter-reverse keeps [] = refl
filter-reverse {X = X} keeps (x ∷ xs) =
    ap (filter keeps) (reverse-append (x ∷ []) xs)
    ∙ filter-append keeps (reverse xs) (x ∷ [])
    ∙ ap (λ front. front ++ filter keeps (x ∷ [])) (filter-reverse keeps xs)
    ∙ elim (cases_Bool (keeps x)) [
      | inl stays ↦ rw stays (sym (reverse-append (x ∷ []) (filter keeps xs)))
      | inr goes ↦ rw goes (append-none (reverse (filter keeps xs)))
    ]
  where
    append-none : (ys : List X) → ys ++ [] ≡ ys
    append-none [] = refl
    append-none (y ∷ ys) = ap (λ rest. y ∷ rest) (append-none ys)

-- tests that agree on all that is there
find-agree-all : {X : Type 0} (p q : X → Bool) (xs : List X) → All (λ x. p x ≡ q x) xs → find p xs ≡ find q xs
find-agree-all p q [] all = refl
find-agree-all p q (x ∷ xs) all =
    rw (All-head (λ y. p y ≡ q y) x xs all) (ap (λ rest. cond (q x) (Some x) rest)
    (find-agree-all p q xs (All-tail (λ y. p y ≡ q y) x xs all)))

-- ---- what a search finds after `dedup`

module _ {X : Type 0} (p : X → Bool) (same : X → X → Bool) (agree : (x y : X) → same x y ≡ true → p x ≡ p y) where
  find-dedup_from : (k : X) (xs : List X) → find p (dedup_from same k xs) ≡ find p (k ∷ xs)
  find-dedup_from k [] = refl
  find-dedup_from k (x ∷ xs) =
      elim (cases_Bool (same x k)) [
        | inl alike ↦ rw alike (find-dedup_from k xs ∙ elim (cases_Bool (p k)) [
          | inl here ↦ rw here refl
          | inr there ↦ rw (there, agree x k alike ∙ there) refl
        ])
        | inr unlike ↦ rw unlike (ap (λ rest. cond (p k) (Some k) rest) (find-dedup_from x xs))
      ]

  pub find-dedup : (xs : List X) → find p (dedup same xs) ≡ find p xs
  find-dedup [] = refl
  find-dedup (x ∷ xs) = find-dedup_from x xs

-- ---- the order of entries

abbrev entry_cmp : Logged → Logged → Ordering
entry_cmp = logged_cmp

entry_total : IsTotalOrder entry_cmp
entry_total = then_total (on_total (λ (e : Logged). e.prefix) prefix_total) (on_total (λ (e : Logged). e.peer) nat_cmp_total)

-- one entry is before another
abbrev pub lower : Logged → Logged → Bool
lower one other = is_lt (logged_cmp one other)

pub lower-orders : IsStrictWeakOrder lower
lower-orders = ranks_by entry_total (λ entry. entry)

eq-then : (r s : Ordering) → is_eq (ordering_then r s) ≡ (is_eq r && is_eq s)
eq-then Less s = refl
eq-then Equal s = refl
eq-then Greater s = refl

eq-nat : (x y : ℕ) → is_eq (nat_cmp x y) ≡ (y == x)
eq-nat x y =
    elim (eqb_tells y x) [
      | inl same ↦ rw (same.0, same.1) (ap is_eq (tied_itself nat_cmp_total x))
      | inr apart ↦ rw apart.0 (elim (cases_Bool (is_eq (nat_cmp x y))) [
        | inl tied ↦ absurd (apart.1 (sym (nat_cmp-IsAntisymmetric x y ((Equal-is (nat_cmp x y)).0 tied))))
        | inr not_tied ↦ not_tied
      ])
    ]

swap-and : (a b : Bool) → (a && b) ≡ (b && a)
swap-and true true = refl
swap-and true false = refl
swap-and false true = refl
swap-and false false = refl

-- an entry of a peer and a prefix, for the search of others
abbrev of : ℕ → IpPrefix → Logged
of peer prefix = record { prefix = prefix; time = 0; losses = 0; peer = peer; attributes = None }

eq-of : (peer : ℕ) (prefix : IpPrefix) (entry : Logged) → is_eq (entry_cmp (of peer prefix) entry) ≡ is_of peer prefix entry
eq-of peer prefix entry =
    eq-then (prefix_cmp prefix entry.prefix) (nat_cmp peer entry.peer)
    ∙ ap (λ b. same_prefix prefix entry.prefix && b) (eq-nat peer entry.peer)
    ∙ swap-and (same_prefix prefix entry.prefix) (entry.peer == peer)

-- entries that tie are those of one peer and prefix
tie-is : (x y : Logged) → ties (λ x y. is_lt (entry_cmp x y)) x y ≡ is_eq (entry_cmp x y)
tie-is x y = by_both (entry_cmp x y) (entry_cmp y x) (entry_total.antisymm x y)
  where
    by_both : (r s : Ordering) → r ≡ ordering_reverse s → (not (is_lt r) && not (is_lt s)) ≡ is_eq r
    by_both Less s e = refl
    by_both Equal Less e = absurd (cc e)
    by_both Equal Equal e = refl
    by_both Equal Greater e = absurd (cc e)
    by_both Greater Less e = refl
    by_both Greater Equal e = absurd (cc e)
    by_both Greater Greater e = absurd (cc e)

-- entries that are equal by their keys are of the same peers and prefixes
alike : (peer : ℕ) (prefix : IpPrefix) (x y : Logged) → is_eq (entry_cmp x y) ≡ true → is_of peer prefix x ≡ is_of peer prefix y
alike peer prefix x y tied =
    let tie = (Equal-is (entry_cmp x y)).0 tied in
    sym (eq-of peer prefix x) ∙ ap is_eq (back (of peer prefix) x y tie) ∙ eq-of peer prefix y
  where
    back : (z x y : Logged) → entry_cmp x y ≡ Equal → entry_cmp z x ≡ entry_cmp z y
    back z x y tie =
        entry_total.antisymm z x ∙ ap ordering_reverse (entry_total.congr x y z tie) ∙ sym (entry_total.antisymm z y)

-- two entries are of one peer and prefix
abbrev pub same_key : Logged → Logged → Bool
same_key x y = same_prefix x.prefix y.prefix && (x.peer == y.peer)

pub same_key-tells : (x y : Logged) → same_key x y ≡ is_eq (entry_cmp x y)
same_key-tells x y =
    sym (eq-then (prefix_cmp x.prefix y.prefix) (nat_cmp x.peer y.peer)
    ∙ ap (λ b. same_prefix x.prefix y.prefix && b) (eq-nat x.peer y.peer ∙ turned x.peer y.peer))
  where
    turned : (a b : ℕ) → (b == a) ≡ (a == b)
    turned a b =
        elim (eqb_tells b a) [
          | inl same ↦ rw (same.0, eq-eqb a b (sym same.1)) refl
          | inr apart ↦ elim (eqb_tells a b) [ inl same ↦ absurd (apart.1 (sym same.1)) | inr other ↦ rw (apart.0, other.0) refl ]
        ]

-- ---- step by step

-- after a stable sort by key a search finds the same
find-sorted : (xs ys : List Logged) → IsStableBy lower xs ys → (peer : ℕ) (prefix : IpPrefix)
    → find (is_of peer prefix) ys ≡ find (is_of peer prefix) xs
find-sorted xs ys stable peer prefix =
    let one : Logged = of peer prefix in
    let test : Logged → Bool = ties (λ x y. is_lt (entry_cmp x y)) one in
    let agree : (y : Logged) → test y ≡ is_of peer prefix y = λ y. tie-is one y ∙ eq-of peer prefix y in
    sym (find-first (is_of peer prefix) ys)
    ∙ ap (find (is_of peer prefix)) (sym (filter-agree test (is_of peer prefix) agree ys) ∙ stable one
    ∙ filter-agree test (is_of peer prefix) agree xs)
    ∙ find-first (is_of peer prefix) xs

-- behind an entry of a lower key stands none of its peer and prefix
none-behind : (peer : ℕ) (prefix : IpPrefix) (x : Logged) (rest : List Logged) → is_of peer prefix x ≡ true
    → AllByRecursion (λ y. entry_cmp x y ≡ Less) rest
    → list_any (is_of peer prefix) rest ≡ false
none-behind peer prefix x [] is below = refl
none-behind peer prefix x (y ∷ ys) is below =
    elim (cases_Bool (is_of peer prefix y)) [
      | inl too ↦
          let one : Logged = of peer prefix in
          let tie_x : entry_cmp one x ≡ Equal = (Equal-is (entry_cmp one x)).0 (eq-of peer prefix x ∙ is) in
          let tie_y : entry_cmp one y ≡ Equal = (Equal-is (entry_cmp one y)).0 (eq-of peer prefix y ∙ too) in
          let tied : entry_cmp x y ≡ Equal = sym (entry_total.congr one x y tie_x) ∙ tie_y in
          let less : entry_cmp x y ≡ Less = below.0 in
          absurd (cc (sym tied ∙ less))
      | inr other ↦ rw other (none-behind peer prefix x ys is below.1)
    ]

any-filtered : {X : Type 0} (p keeps : X → Bool) (xs : List X) → list_any p xs ≡ false → list_any p (filter keeps xs) ≡ false
any-filtered p keeps [] none = refl
any-filtered p keeps (x ∷ xs) none =
    let parts = or_parts (p x) (list_any p xs) none in
    elim (cases_Bool (keeps x)) [
      | inl stays ↦ rw (stays, parts.0) (any-filtered p keeps xs parts.1)
      | inr goes ↦ rw goes (any-filtered p keeps xs parts.1)
    ]

none-mapped : {A B : Type 0} (f : A → B) (o : Option A) → is_some o ≡ false → option_map f o ≡ None
none-mapped f None e = refl
none-mapped f (Some a) e = absurd (cc e)

no-route : (entry : Logged) → announces entry ≡ false → entry_route entry ≡ None
no-route entry e = none-mapped _ entry.attributes e

-- among entries that ascend strictly by key, withdrawals may go
announced-left : (peer : ℕ) (prefix : IpPrefix) (entries : List Logged) → IsStrictlySortedBy entry_cmp entries →
    option_map_or entry_route (find (is_of peer prefix) (reverse (filter announces entries))) None
    ≡ option_map_or entry_route (find (is_of peer prefix) entries) None
unfolding IsStrictlySortedBy
announced-left peer prefix [] sorted = refl
announced-left peer prefix (x ∷ rest) sorted =
    let p : Logged → Bool = is_of peer prefix in
    let route : Option Logged → Option RouteLeft = λ o. option_map_or entry_route o None in
    let later = filter announces rest in
    elim (cases_Bool (p x)) [
      | inl here ↦
          let none : find p (reverse later) ≡ None =
          find_none p (reverse later) (list_any-reverse p later
          (any-filtered p announces rest (none-behind peer prefix x rest here sorted.0))) in
          let only : find p (x ∷ []) ≡ Some x = rw here refl in
          let found : find p (reverse (x ∷ later)) ≡ Some x =
          find_last_more p x later ∙ ap (λ (o : Option Logged). option_or o (find p (x ∷ []))) none ∙ only in
          elim (cases_Bool (announces x)) [
            | inl stays ↦ rw (stays, here) (ap route found)
            | inr goes ↦ rw (goes, here) (ap route none ∙ sym (no-route x goes))
          ]
      | inr there ↦
          let not_it : find p (x ∷ []) ≡ None = rw there refl in
          let passed : find p (reverse (x ∷ later)) ≡ find p (reverse later) =
          find_last_more p x later ∙ ap (option_or (find p (reverse later))) not_it ∙ or_none (find p (reverse later)) in
          elim (cases_Bool (announces x)) [
            | inl stays ↦ rw (stays, there) (ap route passed ∙ announced-left peer prefix rest sorted.1)
            | inr goes ↦ rw (goes, there) (announced-left peer prefix rest sorted.1)
          ]
    ]

-- ---- the whole

module _ (losses : List ℕ) (old current turned sorted short new : List Logged)
    (current_is : current ≡ filter (is_current losses) old) (turned_is : turned ≡ reverse current) (moved : IsPermutation turned sorted)
    (same : Logged → Logged → Bool) (tells : (x y : Logged) → same x y ≡ is_eq (entry_cmp x y)) (short_is : short ≡ dedup same sorted)
    (new_is : new ≡ filter announces short) where
  kept-sorted : (P : Logged → Type 0) → All P current → All P sorted
  kept-sorted P all =
      All-permutation P turned sorted moved (subst (All P) (sym turned_is)
      (All-permutation P current (reverse current) (IsPermutation-reverse current) all))

  kept-new : (P : Logged → Type 0) → All P current → All P new
  kept-new P all = subst (All P) (sym new_is) (All-filter announces P short
      (subst (All P) (sym short_is) (All-dedup same P sorted (kept-sorted P all))))

  -- no entry is made up
  pub kept : (P : Logged → Type 0) → All P old → All P new
  kept P all = kept-new P (subst (All P) (sym current_is) (All-filter (is_current losses) P old all))

  all-current : All (λ entry. is_current losses entry ≡ true) new
  all-current =
      kept-new (λ entry. is_current losses entry ≡ true) (subst (All (λ entry. is_current losses entry ≡ true)) (sym current_is)
      (filter_passes (is_current losses) old))

  -- what stays is announced
  pub all-announced : All (IsAnnounced losses) new
  all-announced k d within =
      let announced : All (λ entry. announces entry ≡ true) new =
      subst (All (λ entry. announces entry ≡ true)) (sym new_is) (filter_passes announces short) in
      (all-current k d within, announced k d within)

  -- and ascends
  pub ascending : IsSortedBy lower sorted → IsStrictlySortedBy logged_cmp new
  ascending up =
      subst (IsStrictlySortedBy logged_cmp) (sym new_is)
      (IsStrictlySortedBy-filter logged_cmp announces short
      (subst (IsStrictlySortedBy logged_cmp) (sym short_is) (IsStrictlySortedBy-dedup entry_total tells sorted up)))

  module _ (stable : IsStableBy lower turned sorted) (up : IsSortedBy lower sorted) where
    pub compacted : (peer : ℕ) (prefix : IpPrefix) → left_in losses new peer prefix ≡ left_in losses old peer prefix
    compacted peer prefix =
        let p : Logged → Bool = is_of peer prefix in
        let route : Option Logged → Option RouteLeft = λ o. option_map_or entry_route o None in
        let reversed_current : All (λ entry. is_current losses entry ≡ true) (reverse new) =
        All-permutation (λ entry. is_current losses entry ≡ true) new (reverse new) (IsPermutation-reverse new) all-current in
        let counting : find (counts losses peer prefix) (reverse new) ≡ find p (reverse new) =
        find-agree-all (counts losses peer prefix) p (reverse new)
        (All-weaker (λ entry. is_current losses entry ≡ true) (λ entry. counts losses peer prefix entry ≡ p entry)
        (λ entry is. rw is (and-true (p entry))) (reverse new) reversed_current) in
        let strict : IsStrictlySortedBy entry_cmp short =
        subst (IsStrictlySortedBy entry_cmp) (sym short_is) (IsStrictlySortedBy-dedup entry_total tells sorted up) in
        ap route counting
        ∙ ap (λ (list : List Logged). route (find p (reverse list))) new_is
        ∙ announced-left peer prefix short strict
        ∙ ap route (ap (find p) short_is ∙ find-dedup p same (λ x y e. alike peer prefix x y (sym (tells x y) ∙ e)) sorted
        ∙ find-sorted turned sorted stable peer prefix
        ∙ ap (find p) (turned_is ∙ ap reverse current_is ∙ sym (filter-reverse (is_current losses) old))
        ∙ find-filter p (is_current losses) (reverse old))
      where
        and-true : (b : Bool) → (b && true) ≡ b
        and-true true = refl
        and-true false = refl
