-- The rows of a table that is listed, so far and to come: for listing.rt, and `size_hint` of client_rows.rt.
use Rattle.std.proofs.Common.{◌≡◌, ◌≤◌, ℕ, suc, All, List, [], ◌∷◌, ◌++◌, length, map, Option, Some, None, refl, ap, ◌∙◌, arith}
use Rattle.std.specs.List.{filter_map, cons_option}
use Rattle.std.specs.Option.{option_map}
use Rattle.std.proofs.lemmas.List.{append_assoc, map-append}
use Rattle.rs_types.specs.IpPrefix.{IpPrefix}
use Rattle.rs_table.specs.declared.route.Row.{Row}
use Rattle.rs_table.specs.Cell.{CellContent, stored_best}
use Rattle.rs_table.specs.Cells.{Entries}
use Rattle.rs_table.specs.ClientRowsView.{stored_rows}
use Rattle.rs_table.specs.Content.{TablesContent}
use Rattle.rs_table.specs.RouteView.{row_of}
use Rattle.rs_table.specs.Table.{TableRow, best_of}
use Rattle.rs_choice.specs.Decision.{SentRoute}
use Rattle.rs_table.proofs.listing.TableLemmas.{row_on}

module _ (client : ℕ) where
  -- a cell before others has the row of what the client gets there
  pub stored_rows-more : (entry : IpPrefix × CellContent) (later : Entries) (best : Option SentRoute) → stored_best entry.1 client ≡ best
      → stored_rows client (entry ∷ later) ≡ cons_option (option_map (λ route. record { prefix = entry.0; route = route }) best)
      (stored_rows client later)
  stored_rows-more entry later best is =
      ap (λ b. cons_option (option_map (λ route. record { prefix = entry.0; route = route }) b) (stored_rows client later)) is

  -- there are no more rows than cells
  pub length-stored_rows : (entries : Entries) → length (stored_rows client entries) ≤ length entries
  length-stored_rows [] = omega arith
  length-stored_rows (e ∷ es) =
      elim (stored_best e.1 client) as (λ best. length (cons_option (option_map (λ route. record { prefix = e.0; route = route }) best)
      (stored_rows client es)) ≤ length (e ∷ es)) [
        | None ↦ omega (arith, length-stored_rows es)
        | Some route ↦ omega (arith, length-stored_rows es)
      ]

  -- cells that keep what the client gets have the rows of their prefixes
  pub stored_rows-listed : (tables : TablesContent) (entries : Entries)
      → All (λ entry. stored_best entry.1 client ≡ best_of tables client entry.0) entries
      → stored_rows client entries ≡ filter_map (row_on (best_of tables client)) (map (λ entry. entry.0) entries)
  stored_rows-listed tables [] kept = refl
  stored_rows-listed tables (e ∷ es) kept =
      stored_rows-more e es (best_of tables client e.0) (kept 0 e (omega arith))
      ∙ ap (λ rows. cons_option (row_on (best_of tables client) e.0) rows)
      (stored_rows-listed tables es (λ k d below. kept (suc k) d (omega (arith, below))))

-- one row more is in the list
pub rows-one_more : (rows : List Row) (row : Row) (later all : List TableRow) → map row_of rows ++ row_of row ∷ later ≡ all
    → map row_of (rows ++ row ∷ []) ++ later ≡ all
rows-one_more rows row later all listed =
    ap (λ front. front ++ later) (map-append row_of rows (row ∷ [])) ∙ append_assoc (map row_of rows) (row_of row ∷ []) later ∙ listed
