-- The lines of the report about the tables. Nothing here is from a standard: all of it is our choice.
use Rattle.std.specs.Prelude.{ℕ, List, ◌++◌, codes, length, map}
use Rattle.std.specs.Fmt.{decimal}
use Rattle.std.specs.List.{flat_map, enumerate_from}
use Rattle.rs_choice.specs.Plan.{Peer}
use Rattle.rs_table.specs.Content.{TablesContent}
use Rattle.rs_table.specs.Table.{table_of}

-- the line of the report about a client's table
abbrev pub table_line : List ℕ → ℕ → List ℕ
table_line name rows = codes "table " ++ (name ++ (codes " rows " ++ (decimal rows ++ codes "\n")))

-- the line of a client's table, by the client's number and its peer
abbrev pub table_line_of : TablesContent → ℕ × Peer → List ℕ
table_line_of tables (client, peer) = table_line peer.name (length (table_of tables client))

-- a line for each client's table, in their order
abbrev pub table_lines : TablesContent → List ℕ
table_lines tables = flat_map (table_line_of tables) (enumerate_from 0 tables.plan.peers)

-- how many rows a client's table has, and below, for all clients in their order
abbrev pub row_count_of : TablesContent → ℕ × Peer → ℕ
row_count_of tables (client, peer) = length (table_of tables client)

abbrev pub row_counts : TablesContent → List ℕ
row_counts tables = map (row_count_of tables) (enumerate_from 0 tables.plan.peers)
