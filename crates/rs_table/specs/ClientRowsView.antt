-- The rows of a client's table that are still to come, by the cells of the prefixes to come.
use Rattle.std.specs.Prelude.{ℕ, List, Option}
use Rattle.std.specs.List.{filter_map}
use Rattle.std.specs.Option.{option_map}
use Rattle.rs_types.specs.IpPrefix.{IpPrefix}
use Rattle.rs_choice.specs.Decision.{SentRoute}
use Rattle.rs_table.specs.declared.client_rows.ClientRows.TheInside.{Inside}
use Rattle.rs_table.specs.Cell.{CellContent, stored_best}
use Rattle.rs_table.specs.Cells.{Entries}
use Rattle.rs_table.specs.Table.{TableRow}

-- the row on a prefix, if there is a route
abbrev pub row_on : IpPrefix → Option SentRoute → Option TableRow
row_on prefix = option_map (λ route. record { prefix = prefix; route = route })

-- the row on a prefix, if the client gets a route by the stored number
abbrev pub stored_row : ℕ → IpPrefix × CellContent → Option TableRow
stored_row client entry = row_on entry.0 (stored_best entry.1 client)

abbrev pub stored_rows : ℕ → Entries → List TableRow
stored_rows client entries = filter_map (stored_row client) entries

abbrev pub client_rows_view : Inside → List TableRow
client_rows_view fields = stored_rows fields.client fields.cells
