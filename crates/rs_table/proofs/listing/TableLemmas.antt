-- A client's table, which is the one that is computed: for `table_is_computed` of laws.rt, `iter_rows` of listing.rt, StoredLemmas and
-- TablesLemmas.
use Rattle.std.proofs.Common.{◌≡◌, ℕ, Bool, true, false, T, ◌&&◌, List, [], ◌∷◌, ◌++◌, ◌+◌, map, Option, Some, None, refl, sym, ap, subst}
use Rattle.std.proofs.Common.{◌∙◌, inl, inr}
use Rattle.std.specs.List.{filter_map, cons_option, list_any, flat_map, enumerate_from, AllByRecursion}
use Rattle.std.specs.List.Sorted.{IsStrictlySortedBy}
use Rattle.std.specs.Option.{option_map, is_some}
use Rattle.std.specs.Ordering.{is_lt, eq_by_cmp}
use Rattle.std.specs.FinMap as fin
use Rattle.std.specs.FinMap.Entries.{same_entries, below_all}
use Rattle.std.specs.declared.cmp.Ordering.{Ordering}
use Rattle.std.specs.declared.cmp.Ordering.TheVariants.{Less, Equal, Greater}
use Rattle.std.proofs.lemmas.Bool.{cases_Bool, or_from, or_parts}
use Rattle.rs_types.specs.IpPrefix.{IpPrefix}
use Rattle.rs_types.specs.PrefixOrder.{prefix_cmp, same_prefix}
use Rattle.rs_choice.specs.Plan.{Plan}
use Rattle.rs_choice.specs.Decision.{SentRoute, standing_of, choice, remaining, unbeaten}
use Rattle.rs_table.specs.Left.{RouteLeft}
use Rattle.rs_table.specs.Content.{RibContent, TablesContent}
use Rattle.rs_table.specs.Listing.{is_held}
use Rattle.rs_table.specs.Table.{sent_by, TableRow, IsTable, entry_of_row, best_of, prefixes_held, table_of}
use Rattle.rs_table.proofs.PrefixLemmas.{prefix_total, prefix_cmp-IsAntisymmetric, find-entries}
use Rattle.rs_table.proofs.ValueLemmas.{absent}

-- ---- ascending lists, by the test and by the fact

abbrev Below : IpPrefix → List IpPrefix → Type 0
Below prefix prefixes = AllByRecursion (λ other. prefix_cmp prefix other ≡ Less) prefixes

less : (order : Ordering) → T (is_lt order) → order ≡ Less
less Less h = refl
less Equal h = absurd h
less Greater h = absurd h

first_true : (a b : Bool) → T (a && b) → T a
first_true true b h = tt
first_true false b h = absurd h

second_true : (a b : Bool) → T (a && b) → T b
second_true true b h = h
second_true false b h = absurd h

both_true : (a b : Bool) → T a → T b → T (a && b)
both_true true b g h = h
both_true false b g h = absurd g

module _ {X : Type 0} where
  Below-keys : (prefix : IpPrefix) (entries : List (IpPrefix × X)) → T (below_all prefix_cmp prefix entries)
      → Below prefix (map (λ entry. entry.0) entries)
  Below-keys prefix [] h = tt
  Below-keys prefix (e ∷ es) h = (less _ (first_true _ _ h), Below-keys prefix es (second_true _ _ h))

  pub ascending-keys : (entries : List (IpPrefix × X)) → T (fin.is_sorted prefix_cmp entries)
      → IsStrictlySortedBy prefix_cmp (map (λ entry. entry.0) entries)
  unfolding IsStrictlySortedBy
  ascending-keys [] h = tt
  ascending-keys (e ∷ es) h = (Below-keys e.0 es (first_true _ _ h), ascending-keys es (second_true _ _ h))

  below_all-keys : (prefix : IpPrefix) (entries : List (IpPrefix × X)) → Below prefix (map (λ entry. entry.0) entries)
      → T (below_all prefix_cmp prefix entries)
  below_all-keys prefix [] h = tt
  below_all-keys prefix (e ∷ es) h = both_true _ _ (subst (λ order. T (is_lt order)) (sym h.0) tt) (below_all-keys prefix es h.1)

  pub is_sorted-keys : (entries : List (IpPrefix × X)) → IsStrictlySortedBy prefix_cmp (map (λ entry. entry.0) entries)
      → T (fin.is_sorted prefix_cmp entries)
  unfolding IsStrictlySortedBy
  is_sorted-keys [] h = tt
  is_sorted-keys (e ∷ es) h = both_true _ _ (below_all-keys e.0 es h.0) (is_sorted-keys es h.1)

-- ---- a prefix on which no peer has a route

find-append : {X : Type 0} (q : IpPrefix) (xs ys : List (IpPrefix × X)) → fin.find prefix_cmp q (xs ++ ys) ≡ None
    → (fin.find prefix_cmp q xs ≡ None) × (fin.find prefix_cmp q ys ≡ None)
find-append q [] ys e = (refl, e)
find-append q (x ∷ xs) ys e =
    elim (cases_Bool (eq_by_cmp prefix_cmp q x.0)) [
      | inl here ↦ absurd (cc (rw here at e))
      | inr apart ↦ rw (apart) (find-append q xs ys (rw apart at e))
    ]

-- no peer has left a route on a prefix that is among no peer's entries
none_held : (q : IpPrefix) (ribs : List RibContent) → fin.find prefix_cmp q (flat_map (λ rib. fin.entries rib.routes) ribs) ≡ None
    → is_held ribs q ≡ false
none_held q [] e = refl
none_held q (rib ∷ ribs) e =
    let parts = find-append q (fin.entries rib.routes) (flat_map (λ rib. fin.entries rib.routes) ribs) e in
    or_from _ _ (ap is_some (fin.get-entries rib.routes q ∙ parts.0)) (none_held q ribs parts.1)

no_routes : (q : IpPrefix) (n : ℕ) (ribs : List RibContent) → is_held ribs q ≡ false →
    filter_map (λ (peer, rib). option_map (sent_by peer) (fin.get rib.routes q)) (enumerate_from n ribs) ≡ []
no_routes q n [] e = refl
no_routes q n (rib ∷ ribs) e =
    let parts = or_parts (fin.contains_key rib.routes q) (is_held ribs q) e in
    let none : fin.get rib.routes q ≡ None = absent (fin.get rib.routes q) parts.0 in
    rw none (no_routes q (n + 1) ribs parts.1)

pub choice-nil : (plan : Plan) → choice (standing_of plan) [] ≡ None
unfolding choice remaining unbeaten
choice-nil plan = refl

pub best-none : (tables : TablesContent) (client : ℕ) (q : IpPrefix) → is_held tables.ribs q ≡ false → best_of tables client q ≡ None
best-none tables client q none = rw (no_routes q 0 tables.ribs none) (choice-nil tables.plan)

not_held : (ribs : List RibContent) (q : IpPrefix) → list_any (same_prefix q) (prefixes_held ribs) ≡ false → is_held ribs q ≡ false
not_held ribs q none =
    let found : List (IpPrefix × RouteLeft) = flat_map (λ rib. fin.entries rib.routes) ribs in
    none_held q ribs (absent (fin.find prefix_cmp q found)
    (ap is_some (sym (fin.get-from_entries prefix_total found q)) ∙ fin.contains_key-keys (fin.from_entries {R = prefix_cmp} found) q
    ∙ none))

-- ---- the computed table is the table

module _ (f : IpPrefix → Option SentRoute) where
  abbrev pub row_on : IpPrefix → Option TableRow
  row_on prefix = option_map (λ route. record { prefix = prefix; route = route }) (f prefix)

  entries-rows : (prefixes : List IpPrefix) → map entry_of_row (filter_map row_on prefixes)
      ≡ filter_map (λ prefix. option_map (λ route. (prefix, route)) (f prefix)) prefixes
  entries-rows [] = refl
  entries-rows (p ∷ ps) =
      elim (f p) as (λ o. map entry_of_row (cons_option (option_map (λ route. record { prefix = p; route = route }) o)
      (filter_map row_on ps)) ≡ cons_option (option_map (λ route. (p, route)) o)
      (filter_map (λ prefix. option_map (λ route. (prefix, route)) (f prefix)) ps)) [
        | None ↦ entries-rows ps
        | Some route ↦ ap (λ es. (p, route) ∷ es) (entries-rows ps)
      ]

  Below-rows : (prefix : IpPrefix) (prefixes : List IpPrefix) → Below prefix prefixes
      → Below prefix (map (λ row. row.prefix) (filter_map row_on prefixes))
  Below-rows prefix [] h = tt
  Below-rows prefix (p ∷ ps) h =
      elim (f p) as (λ o. Below prefix (map (λ row. row.prefix)
      (cons_option (option_map (λ route. record { prefix = p; route = route }) o) (filter_map row_on ps)))) [
        | None ↦ Below-rows prefix ps h.1
        | Some route ↦ (h.0, Below-rows prefix ps h.1)
      ]

  ascending-rows : (prefixes : List IpPrefix) → IsStrictlySortedBy prefix_cmp prefixes
      → IsStrictlySortedBy prefix_cmp (map (λ row. row.prefix) (filter_map row_on prefixes))
  unfolding IsStrictlySortedBy
  ascending-rows [] h = tt
  ascending-rows (p ∷ ps) h =
      elim (f p) as (λ o. IsStrictlySortedBy prefix_cmp (map (λ row. row.prefix)
      (cons_option (option_map (λ route. record { prefix = p; route = route }) o) (filter_map row_on ps)))) [
        | None ↦ ascending-rows ps h.1
        | Some route ↦ (Below-rows p ps h.0, ascending-rows ps h.1)
      ]

-- rows for prefixes that ascend, without leaving out one on which some peer has left a route
pub rows-IsTable : (tables : TablesContent) (client : ℕ) (prefixes : List IpPrefix) → IsStrictlySortedBy prefix_cmp prefixes →
    ((q : IpPrefix) → list_any (same_prefix q) prefixes ≡ false → is_held tables.ribs q ≡ false)
    → IsTable tables client (filter_map (row_on (best_of tables client)) prefixes)
rows-IsTable tables client prefixes ascending complete =
    let best : IpPrefix → Option SentRoute = best_of tables client in
    record {
      ascending = ascending-rows best prefixes ascending;
      best = λ q.
          ap (fin.find prefix_cmp q) (entries-rows best prefixes)
          ∙ find-entries best q prefixes
          ∙ elim (cases_Bool (list_any (same_prefix q) prefixes)) [
            | inl some ↦ rw some refl
            | inr none ↦ rw none (sym (best-none tables client q (complete q none)))
          ];
    }

pub table_of-IsTable : (tables : TablesContent) (client : ℕ) → IsTable tables client (table_of tables client)
unfolding table_of
table_of-IsTable tables client =
    rows-IsTable tables client (prefixes_held tables.ribs)
    (ascending-keys _ (fin.entries_sorted (fin.from_entries {R = prefix_cmp} (flat_map (λ rib. fin.entries rib.routes) tables.ribs))))
    (not_held tables.ribs)

-- ---- and there is no other

row_from : IpPrefix × SentRoute → TableRow
row_from entry = record { prefix = entry.0; route = entry.1 }

rows_again : (rows : List TableRow) → map row_from (map entry_of_row rows) ≡ rows
unfolding row_from
rows_again [] = refl
rows_again (row ∷ rows) = ap (λ more. row ∷ more) (rows_again rows)

keys-rows : (rows : List TableRow) → map (λ entry. entry.0) (map entry_of_row rows) ≡ map (λ row. row.prefix) rows
keys-rows [] = refl
keys-rows (row ∷ rows) = ap (λ more. row.prefix ∷ more) (keys-rows rows)

pub same_tables : (tables : TablesContent) (client : ℕ) (rows others : List TableRow) → IsTable tables client rows
    → IsTable tables client others → rows ≡ others
same_tables tables client rows others one other =
    let sorted : (rows : List TableRow) → IsTable tables client rows → T (fin.is_sorted prefix_cmp (map entry_of_row rows)) =
    λ rows is. is_sorted-keys (map entry_of_row rows) (subst (IsStrictlySortedBy prefix_cmp) (sym (keys-rows rows)) is.ascending) in
    sym (rows_again rows)
    ∙ ap (map row_from) (same_entries prefix_cmp prefix_total prefix_cmp-IsAntisymmetric (map entry_of_row rows) (map entry_of_row others)
    (sorted rows one) (sorted others other) (λ q. one.best q ∙ sym (other.best q)))
    ∙ rows_again others
