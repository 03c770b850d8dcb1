-- The prefixes of all cells are those on which some peer has left a route: for `cells` of tables.rt and `iter_prefixes` of prefixes.rt.
use Rattle.std.proofs.Common.{◌≡◌, ℕ, ◌+◌, ◌<◌, ◌≤◌, Bool, true, false, ◌||◌, T, List, [], ◌∷◌, ◌++◌, length, map, Option, Some, None, refl}
use Rattle.std.proofs.Common.{sym, ap, subst, ◌∙◌, arith, inl, inr}
use Rattle.std.specs.Option.{is_some}
use Rattle.std.specs.List.{list_any, flat_map}
use Rattle.std.specs.List.Sorted.{IsStrictlySortedBy}
use Rattle.std.specs.Ordering.{eq_by_cmp}
use Rattle.std.specs.FinMap as fin
use Rattle.std.specs.FinMap.Entries.{same_entries}
use Rattle.std.proofs.lemmas.Bool.{cases_Bool, or_left, or_right}
use Rattle.std.proofs.lemmas.List.{length-map}
use Rattle.rs_choice.specs.Held.{sent_of_held}
use Rattle.std.proofs.lemmas.Bool.Decides.{eqb_tells}
use Rattle.rs_types.specs.IpPrefix.{IpPrefix}
use Rattle.rs_types.specs.PrefixOrder.{prefix_cmp, same_prefix}
use Rattle.rs_choice.specs.Decision.{SentRoute}
use Rattle.rs_choice.specs.Plan.{Plan}
use Rattle.rs_table.specs.Left.{RouteLeft}
use Rattle.rs_table.specs.Content.{RibContent}
use Rattle.rs_table.specs.Listing.{is_held}
use Rattle.rs_table.specs.Table.{prefixes_held}
use Rattle.rs_table.specs.ByPeer.{IsRow, route_at}
use Rattle.rs_table.specs.Cell.{CellContent, IsCell, routes_in}
use Rattle.rs_table.specs.Cells.{Entries, cell_at, routes_of, routes_from}
use Rattle.rs_table.specs.TablesView.{ribs_from}
use Rattle.rs_table.proofs.PrefixLemmas.{prefix_total, prefix_cmp-IsAntisymmetric}
use Rattle.rs_table.proofs.cells.CellsLemmas.{get-routes_from}
use Rattle.rs_table.proofs.listing.TableLemmas.{ascending-keys, is_sorted-keys}

-- ---- on a prefix that has a cell, some peer has left a route

module _ (entries : Entries) (prefix : IpPrefix) where
  held_from : (route : SentRoute) → (route_at (routes_of (cell_at entries prefix)) route.peer
      ≡ Some (record { time = route.time; attributes = route.attributes })) →
      (first : ℕ) (closed : List Bool) → first ≤ route.peer → route.peer < first + length closed
      → is_held (ribs_from entries first closed) prefix ≡ true
  held_from route found first [] from to = absurd (omega (arith, from, to))
  held_from route found first (c ∷ cs) from to =
      elim (eqb_tells first route.peer) [
        | inl here ↦
            or_left (fin.contains_key (routes_from entries first) prefix) (is_held (ribs_from entries (first + 1) cs) prefix)
            (ap is_some (get-routes_from entries first prefix ∙ ap (route_at (routes_of (cell_at entries prefix))) here.1 ∙ found))
        | inr apart ↦
            or_right (fin.contains_key (routes_from entries first) prefix) (is_held (ribs_from entries (first + 1) cs) prefix)
            (held_from route found (first + 1) cs (omega (arith, from, apart.1)) (omega (arith, to)))
      ]

  first_found : (routes : List SentRoute) (to : ℕ) → IsRow 0 to routes → 0 < length routes → (route : SentRoute) × (route.peer < to)
      × (route_at routes route.peer ≡ Some (record { time = route.time; attributes = route.attributes }))
  first_found [] to row some = absurd (omega (arith, some))
  first_found (route ∷ later) to row some = elim (eqb_tells route.peer route.peer) [
    | inl same ↦ (route, row.1, rw same.0 refl)
    | inr apart ↦ absurd (apart.1 refl)
  ]

  pub cell-held : (plan : Plan) (cell : CellContent) (closed : List Bool) → length closed ≡ length plan.peers → IsCell plan cell
      → cell_at entries prefix ≡ Some cell → is_held (ribs_from entries 0 closed) prefix ≡ true
  cell-held plan cell closed peers is found =
      let one = first_found (routes_in cell) (length plan.peers) is.held.row (omega (arith, is.some, length-map cell.held sent_of_held)) in
      held_from one.0 (ap (λ cell. route_at (routes_of cell) one.0.peer) found ∙ one.2) 0 closed (omega arith) (omega (arith, one.1, peers))

-- ---- prefixes on which peers have left routes

any-append : {X : Type 0} (q : IpPrefix) (xs ys : List (IpPrefix × X))
    → is_some (fin.find prefix_cmp q (xs ++ ys)) ≡ (is_some (fin.find prefix_cmp q xs) || is_some (fin.find prefix_cmp q ys))
any-append q [] ys = refl
any-append q (x ∷ xs) ys =
    elim (cases_Bool (eq_by_cmp prefix_cmp q x.0)) [
      | inl here ↦ rw here refl
      | inr apart ↦ rw apart (any-append q xs ys)
    ]

some-held : (q : IpPrefix) (ribs : List RibContent) → is_some (fin.find prefix_cmp q (flat_map (λ rib. fin.entries rib.routes) ribs))
    ≡ is_held ribs q
some-held q [] = refl
some-held q (rib ∷ ribs) =
    any-append q (fin.entries rib.routes) (flat_map (λ rib. fin.entries rib.routes) ribs)
    ∙ (λ i. is_some (sym (fin.get-entries rib.routes q) i) || some-held q ribs i)

any-held : (q : IpPrefix) (ribs : List RibContent) → list_any (same_prefix q) (prefixes_held ribs) ≡ is_held ribs q
any-held q ribs =
    let found : List (IpPrefix × RouteLeft) = flat_map (λ rib. fin.entries rib.routes) ribs in
    sym (fin.contains_key-keys (fin.from_entries {R = prefix_cmp} found) q) ∙ ap is_some (fin.get-from_entries prefix_total found q)
    ∙ some-held q ribs

-- ---- ascending lists of the same prefixes are one

marked : List IpPrefix → List (IpPrefix × ℕ)
marked prefixes = map (λ prefix. (prefix, 0)) prefixes

marked-keys : (prefixes : List IpPrefix) → map (λ entry. entry.0) (marked prefixes) ≡ prefixes
unfolding marked
marked-keys [] = refl
marked-keys (p ∷ ps) = ap (λ rest. p ∷ rest) (marked-keys ps)

abbrev mark_if : Bool → Option ℕ
mark_if true = Some 0
mark_if false = None

find-any : (q : IpPrefix) (ps : List IpPrefix) → fin.find prefix_cmp q (marked ps) ≡ mark_if (list_any (same_prefix q) ps)
unfolding marked
find-any q [] = refl
find-any q (p ∷ ps) =
    elim (cases_Bool (same_prefix q p)) [
      | inl here ↦ rw here refl
      | inr apart ↦ rw apart (find-any q ps)
    ]

pub prefixes-held : (prefixes : List IpPrefix) (ribs : List RibContent) → IsStrictlySortedBy prefix_cmp prefixes
    → ((q : IpPrefix) → list_any (same_prefix q) prefixes ≡ is_held ribs q) → prefixes ≡ prefixes_held ribs
prefixes-held prefixes ribs ascending same =
    let held = prefixes_held ribs in
    let held_ascending : IsStrictlySortedBy prefix_cmp held =
    ascending-keys _ (fin.entries_sorted (fin.from_entries {R = prefix_cmp} (flat_map (λ rib. fin.entries rib.routes) ribs))) in
    let sorted : (ps : List IpPrefix) → IsStrictlySortedBy prefix_cmp ps → T (fin.is_sorted prefix_cmp (marked ps)) =
    λ ps is. is_sorted-keys (marked ps) (subst (IsStrictlySortedBy prefix_cmp) (sym (marked-keys ps)) is) in
    sym (marked-keys prefixes)
    ∙ ap (map (λ entry. entry.0)) (same_entries prefix_cmp prefix_total prefix_cmp-IsAntisymmetric (marked prefixes) (marked held)
    (sorted prefixes ascending) (sorted held held_ascending)
    (λ q. find-any q prefixes ∙ ap mark_if (same q ∙ sym (any-held q ribs)) ∙ sym (find-any q held)))
    ∙ marked-keys held
