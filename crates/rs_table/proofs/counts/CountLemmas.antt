-- How many routes a peer has in the cells, before a change and after it: for counts.rt and tables.rt.
use Rattle.std.proofs.Common.{◌≡◌, ◌≢◌, ℕ, zero, suc, ◌+◌, ◌-◌, ◌<◌, ◌≤◌, Bool, true, false, cond, ◌==◌, List, [], ◌∷◌, length, map, Option}
use Rattle.std.proofs.Common.{Some, None}
use Rattle.std.proofs.Common.{◌++◌, get_or, set, length-append, length-set, get_or-set_same, refl, sym, ap, ◌∙◌, arith, inl, inr}
use Rattle.std.specs.BTreeMap.{BTreeMap, IsOrdered}
use Rattle.std.specs.FinMap as fin
use Rattle.std.specs.List.{count_by}
use Rattle.std.specs.List.Sorted.{IsStrictlySortedBy}
use Rattle.std.specs.Option.{is_some}
use Rattle.std.proofs.lemmas.Bool.{cases_Bool}
use Rattle.std.proofs.lemmas.Bool.Decides.{eqb_tells}
use Rattle.std.proofs.lemmas.List.{get_or-set_other, get_or_push}
use Rattle.std.proofs.Math.ListN.{get_or-append}
use Rattle.std.proofs.lemmas.List.Sums.{count_by-le-length, sum_by-cons}
use Rattle.rs_types.specs.IpPrefix.{IpPrefix}
use Rattle.rs_types.specs.PrefixOrder.{prefix_cmp, same_prefix}
use Rattle.rs_change.specs.Change.{Change, ChangeBody, Announced, Withdrawn, Lost, Closed}
use Rattle.rs_choice.specs.Decision.{SentRoute}
use Rattle.rs_table.specs.ByPeer.{route_at, without_route}
use Rattle.rs_table.specs.Cell.{CellContent, routes_in}
use Rattle.rs_table.specs.Cells.{Entries, cell_at, routes_at, routes_of, routes_from, changed_routes_body, ChangeTo}
use Rattle.rs_table.specs.Counts.{route_count, announces, body_announces, AreCounts}
use Rattle.rs_table.specs.Left.{RouteLeft, Routes, reason_drops}
use Rattle.rs_table.proofs.PrefixLemmas.{prefix_total, prefix_cmp-IsAntisymmetric, same_prefix-true}
use Rattle.rs_table.proofs.cells.CellsLemmas.{get-routes_from}
use Rattle.rs_table.proofs.cells.CloseLemmas.{none_below}

-- ---- counted cell by cell

abbrev pub has_route : ℕ → CellContent → Bool
has_route peer cell = is_some (route_at (routes_in cell) peer)

module _ (peer : ℕ) where
  -- the routes in a first cell and in those behind it
  module _ (e : IpPrefix × CellContent) (es : Entries) (none : fin.get (routes_from es peer) e.0 ≡ None) where
    at_first : (q : IpPrefix) → fin.get (routes_from (e ∷ es) peer) q
        ≡ cond (same_prefix q e.0) (route_at (routes_in e.1) peer) (fin.get (routes_from es peer) q)
    at_first q =
        get-routes_from (e ∷ es) peer q ∙ elim (cases_Bool (same_prefix q e.0)) [
          | inl here ↦ rw here refl
          | inr there ↦ rw there (sym (get-routes_from es peer q))
        ]

    one_more : (o : Option RouteLeft) → route_at (routes_in e.1) peer ≡ o
        → route_count (e ∷ es) peer ≡ cond (is_some o) 1 0 + route_count es peer
    one_more None is =
        ap fin.len (fin.same_map prefix_total prefix_cmp-IsAntisymmetric (routes_from (e ∷ es) peer) (routes_from es peer)
        (λ q. at_first q ∙ elim (cases_Bool (same_prefix q e.0)) [
          | inl here ↦ rw here (is ∙ sym (ap (fin.get (routes_from es peer)) (same_prefix-true q e.0 here) ∙ none))
          | inr there ↦ rw there refl
        ]))
        ∙ omega arith
    one_more (Some route) is =
        ap fin.len (fin.same_map prefix_total prefix_cmp-IsAntisymmetric (routes_from (e ∷ es) peer)
        (fin.insert (routes_from es peer) e.0 route)
        (λ q. at_first q
        ∙ ap (λ o. cond (same_prefix q e.0) o (fin.get (routes_from es peer) q)) is
        ∙ sym (fin.get-insert prefix_total (routes_from es peer) e.0 route q)))
        ∙ fin.len-insert prefix_total (routes_from es peer) e.0 route
        ∙ ap (λ o. cond (is_some o) (route_count es peer) (route_count es peer + 1)) none
        ∙ omega arith

  pub count-cells : (entries : Entries) → IsStrictlySortedBy prefix_cmp (map (λ entry. entry.0) entries)
      → route_count entries peer ≡ count_by (has_route peer) (map (λ entry. entry.1) entries)
  unfolding IsStrictlySortedBy
  count-cells [] sorted = fin.len-empty prefix_cmp RouteLeft
  count-cells (e ∷ es) sorted =
      one_more e es (get-routes_from es peer e.0 ∙ ap (λ cell. route_at (routes_of cell) peer) (none_below e.0 es sorted.0))
      (route_at (routes_in e.1) peer) refl
      ∙ ap (λ n. cond (has_route peer e.1) 1 0 + n) (count-cells es sorted.1)
      ∙ sym (sum_by-cons (λ cell. cond (has_route peer cell) 1 0) e.1 (map (λ entry. entry.1) es))

  pub count-most : (m : BTreeMap IpPrefix CellContent) → IsOrdered prefix_cmp m → route_count m.entries peer ≤ length m.entries
  count-most m ordered =
      omega (
        arith,
        count-cells m.entries ordered,
        count_by-le-length (has_route peer) (map (λ entry. entry.1) m.entries),
        long m.entries,
      )
    where
      long : (entries : Entries) → length (map (λ entry. entry.1) entries) ≡ length entries
      long [] = refl
      long (e ∷ es) = ap suc (long es)

-- ---- at one prefix

pub has-at : (entries : Entries) (prefix : IpPrefix) (peer : ℕ) (o : Option CellContent) → cell_at entries prefix ≡ o
    → is_some (route_at (routes_of o) peer) ≡ fin.contains_key (routes_from entries peer) prefix
has-at entries prefix peer o is =
    ap is_some (ap (λ cell. route_at (routes_of cell) peer) (sym is) ∙ sym (get-routes_from entries peer prefix))

-- ---- a peer without routes

without_none : (routes : List SentRoute) (peer : ℕ) → route_at routes peer ≡ None → routes ≡ without_route routes peer
without_none [] peer none = refl
without_none (route ∷ later) peer none =
    elim (cases_Bool (route.peer == peer)) [
      | inl same ↦ absurd (cc (rw same at none))
      | inr other ↦ rw other (ap (λ rest. route ∷ rest) (without_none later peer (rw other at none)))
    ]

module _ (entries : Entries) (peer : ℕ) (none : route_count entries peer ≡ 0) where
  pub no-routes : routes_from entries peer ≡ fin.empty
  no-routes = fin.empty_of_len (routes_from entries peer) none

  stays : (q : IpPrefix) → routes_at entries q ≡ without_route (routes_at entries q) peer
  stays q =
      without_none (routes_at entries q) peer (sym (get-routes_from entries peer q)
      ∙ ap (λ routes. fin.get routes q) no-routes ∙ fin.get-empty prefix_cmp q)

  -- only an announcement changes anything
  pub nothing-changes : (change : Change) → announces change ≡ false → ChangeTo peer change entries entries
  nothing-changes change no_route q = by_body change.body no_route
    where
      by_body : (body : ChangeBody) → body_announces body ≡ false
          → routes_at entries q ≡ changed_routes_body peer change.time body q (routes_at entries q)
      by_body (Announced prefix attributes) announced = absurd (cc announced)
      by_body (Withdrawn prefix) e =
          elim (cases_Bool (same_prefix q prefix)) [ inl here ↦ rw here (stays q) | inr there ↦ rw there refl ]
      by_body Lost e = stays q
      by_body (Closed reason) e =
          elim (cases_Bool (reason_drops reason)) [ inl drops ↦ rw drops (stays q) | inr keeps ↦ rw keeps refl ]

-- ---- one route more or less

module _ (routes : Routes) (prefix : IpPrefix) where
  pub some-counted : fin.contains_key routes prefix ≡ true → 0 < fin.len routes
  some-counted some = by_len (fin.len routes) refl
    where
      by_len : (n : ℕ) → fin.len routes ≡ n → 0 < n
      by_len zero e =
          absurd (cc (sym some ∙ ap (λ (m : Routes). fin.contains_key m prefix) (fin.empty_of_len routes e)
          ∙ ap is_some (fin.get-empty prefix_cmp prefix)))
      by_len (suc n) e = omega arith

  pub insert-counted : (route : RouteLeft) (b : Bool) → fin.contains_key routes prefix ≡ b
      → fin.len (fin.insert routes prefix route) ≡ cond b (fin.len routes) (fin.len routes + 1)
  insert-counted route b is =
      fin.len-insert prefix_total routes prefix route ∙ ap (λ b. cond b (fin.len routes) (fin.len routes + 1)) is

  pub remove-counted : (b : Bool) → fin.contains_key routes prefix ≡ b
      → fin.len (fin.remove routes prefix) ≡ cond b (fin.len routes - 1) (fin.len routes)
  remove-counted b is =
      fin.len-remove prefix_total routes prefix ∙ ap (λ b. cond b (fin.len routes - 1) (fin.len routes)) is

-- ---- the counts after a change

pub counts-after : (entries others : Entries) (peers : ℕ) (counts : List ℕ) (peer count : ℕ) → AreCounts entries peers counts → peer < peers
    → ((other : ℕ) → other ≢ peer → routes_from others other ≡ routes_from entries other) → count ≡ route_count others peer
    → AreCounts others peers (set counts peer count)
counts-after entries others peers counts peer count were known same is = record {
  long = length-set counts peer count ∙ were.long;
  each = λ other within.
      elim (eqb_tells other peer) [
        | inl here ↦
            ap (λ n. get_or (set counts peer count) n 0) here.1
            ∙ get_or-set_same counts peer count 0 (omega (arith, known, were.long))
            ∙ is ∙ ap (route_count others) (sym here.1)
        | inr apart ↦
            get_or-set_other counts peer other count 0 apart.1 ∙ were.each other within ∙ ap fin.len (sym (same other apart.1))
      ];
}

-- those of one peer more
pub counts-more : (entries : Entries) (counts : List ℕ) (peer count : ℕ) → AreCounts entries peer counts → count ≡ route_count entries peer
    → AreCounts entries (peer + 1) (counts ++ count ∷ [])
counts-more entries counts peer count were is = record {
  long = length-append counts (count ∷ []) ∙ omega (arith, were.long);
  each = λ other within.
      elim (eqb_tells other peer) [
        | inl here ↦
            ap (λ n. get_or (counts ++ count ∷ []) n 0) here.1
            ∙ get_or_push counts count 0 peer were.long
            ∙ is ∙ ap (route_count entries) (sym here.1)
        | inr apart ↦
            get_or-append counts (count ∷ []) 0 other (omega (arith, within, apart.1, were.long))
            ∙ were.each other (omega (arith, within, apart.1))
      ];
}
