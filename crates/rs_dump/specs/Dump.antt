-- A dump of one client's table as TABLE_DUMP_V2 (RFC 6396, section 4.3).
use Rattle.std.specs.Prelude.{ℕ, List, ◌∷◌, map}
use Rattle.std.specs.List.{flat_map, enumerate_from}
use Rattle.rs_mrt.specs.Record.{MrtRecord, record_spelling}
use Rattle.rs_choice.specs.Plan.{Plan}
use Rattle.rs_records.specs.PeerIndex.{index_record}
use Rattle.rs_records.specs.Rib.{rib_record}
use Rattle.rs_table.specs.Table.{TableRow}

-- the record of a row; its Sequence Number is its place among the rows
abbrev pub row_record : ℕ → ℕ × TableRow → MrtRecord
row_record time (place, row) = rib_record time place row.prefix row.route

-- The records of a dump: the record of the peers, and one record for each row in the order given. All have one
-- Timestamp (our choice).
abbrev pub dump_records : Plan → ℕ → List TableRow → ℕ → List MrtRecord
dump_records plan client rows time = index_record plan client time ∷ map (row_record time) (enumerate_from 0 rows)

-- the octets of the records of rows; the first row has this place among all rows
abbrev pub spelled_rows : ℕ → ℕ → List TableRow → List ℕ
spelled_rows time first rows = flat_map record_spelling (map (row_record time) (enumerate_from first rows))

-- the octets of a whole dump
unfoldable pub dumped : Plan → ℕ → List TableRow → ℕ → List ℕ
dumped plan client rows time = flat_map record_spelling (dump_records plan client rows time)
