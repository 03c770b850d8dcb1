-- Each row of a table names a peer of the plan: for `iter_rows` of listing.rt.
use Rattle.std.proofs.Common.{◌≡◌, ℕ, ◌<◌, List, [], ◌∷◌, Option, Some, None, length, All, refl}
use Rattle.std.specs.List.{filter_map, cons_option, AllByRecursion}
use Rattle.std.specs.Option.{option_map}
use Rattle.std.proofs.lemmas.List.Elements.{All-from_recursion}
use Rattle.rs_types.specs.IpPrefix.{IpPrefix}
use Rattle.rs_table.specs.Content.{TablesContent}
use Rattle.rs_table.specs.Table.{TableRow, best_of}
use Rattle.rs_choice.specs.Decision.{SentRoute}
use Rattle.rs_table.proofs.listing.SelectionLemmas.{best-known}
use Rattle.rs_table.proofs.listing.TableLemmas.{row_on}

module _ (tables : TablesContent) (client : ℕ) where
  abbrev AreKnown : List TableRow → Type 0
  AreKnown rows = AllByRecursion (λ (row : TableRow). row.route.peer < length tables.ribs) rows

  row_known : (prefix : IpPrefix) (later : List TableRow) (best : Option SentRoute) → best_of tables client prefix ≡ best → AreKnown later
      → AreKnown (cons_option (option_map (λ route. record { prefix = prefix; route = route }) best) later)
  row_known prefix later None e h = h
  row_known prefix later (Some route) e h = (best-known tables client prefix route e, h)

  rows_known : (prefixes : List IpPrefix) → AreKnown (filter_map (row_on (best_of tables client)) prefixes)
  rows_known [] = tt
  rows_known (p ∷ ps) = row_known p (filter_map (row_on (best_of tables client)) ps) (best_of tables client p) refl (rows_known ps)

  -- the rows of any prefixes
  pub rows-known : (prefixes : List IpPrefix) → All (λ (row : TableRow). row.route.peer < length tables.ribs)
      (filter_map (row_on (best_of tables client)) prefixes)
  rows-known prefixes =
      All-from_recursion (λ (row : TableRow). row.route.peer < length tables.ribs) (filter_map (row_on (best_of tables client)) prefixes)
      (rows_known prefixes)
