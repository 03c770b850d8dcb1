-- The tables in a file: the index of each table, and the routes that its records have of each peer (RFC 6396,
-- section 4.3).
use Rattle.std.specs.Prelude.{◌≡◌, ℕ, ◌==◌, if◌then◌else◌, Bool, true, false, List, [], ◌∷◌, ◌++◌, length, map, filter}
use Rattle.std.specs.Prelude.{None}
use Rattle.std.specs.List.{flat_map, AllByRecursion}
use Rattle.rs_mrt.specs.Record.{MrtRecord, end_of, records_of}
use Rattle.rs_update.specs.IpPrefix.{IpPrefix}
use Rattle.rs_start.specs.Opening.{TableRoute, added_of, route_by}
use Rattle.rs_start.specs.RightFlags.{mended}
use Rattle.rs_start.specs.Table.{IsIndex, IsRib, TableEntry}
use Rattle.rs_start.specs.declared.index.IndexPeer.{IndexPeer}
use Rattle.rs_start.specs.declared.part.Part.{Part}
use Rattle.rs_start.specs.declared.part.Part.TheVariants.{Index, Routes, Other}

-- ---- records

-- the part of a table that a record is, by Type and Subtype: Type 13 is TABLE_DUMP_V2; its Subtypes 1 and 2 are
-- PEER_INDEX_TABLE and RIB_IPV4_UNICAST
abbrev pub part_by : ℕ → ℕ → Part
part_by kind subtype =
    if kind == 13 then (if subtype == 1 then Index else if subtype == 2 then Routes else Other) else Other

abbrev pub part_of : MrtRecord → Part
part_of r = part_by r.kind r.subtype

abbrev pub IsOther : MrtRecord → Type 0
IsOther r = part_of r ≡ Other

-- ---- rows

-- a row of a table: a prefix, and a RIB entry
pub record TableRow : Type 0 where
  pub prefix : IpPrefix
  pub entry : TableEntry

abbrev pub rows_of : IpPrefix → List TableEntry → List TableRow
rows_of prefix entries = map (λ entry. record { prefix = prefix; entry = entry }) entries

-- a record of routes is whole, and these are its rows
pub record HasRoutes (body : List ℕ) (rows : List TableRow) : Type 0 where
  pub prefix : IpPrefix
  pub entries : List TableEntry
  pub is_rib : IsRib body prefix entries
  pub rows_are : rows ≡ rows_of prefix entries

-- a record after the index has these rows; it is not a second index, and a record of another kind has no rows
abbrev pub HasBy : Part → List ℕ → List TableRow → Type 0
HasBy Index body rows = ⊥
HasBy Routes body rows = HasRoutes body rows
HasBy Other body rows = rows ≡ []

abbrev pub Has : MrtRecord → List TableRow → Type 0
Has r rows = HasBy (part_of r) r.body rows

-- records after the index have these rows, in order
abbrev pub AllHave : List MrtRecord → List TableRow → Type 0
AllHave [] rows = rows ≡ []
AllHave (r ∷ later) rows =
    (first : List TableRow) × (behind : List TableRow) × Has r first × AllHave later behind × (rows ≡ first ++ behind)

-- ---- the tables of a file

abbrev pub is_index_part : Part → Bool
is_index_part Index = true
is_index_part Routes = false
is_index_part Other = false

-- the indexes among the records; a table begins with each
abbrev pub indexes_of : List MrtRecord → List MrtRecord
indexes_of records = filter (λ r. is_index_part (part_of r)) records

-- the times of the tables that begin among the records, in order
abbrev pub table_times : List MrtRecord → List ℕ
table_times records = map (λ r. r.time) (indexes_of records)

-- One of the tables in a file. Its records are an index, after those of so many other tables, and then records that
-- have these rows. Behind it there is nothing, or the index of the next table. Before the index of the first table
-- there are only records of other kinds. Each record is whole.
pub record IsTable (octets : List ℕ) (place time collector : ℕ) (name : List ℕ) (peers : List IndexPeer)
    (rows : List TableRow) (after : List MrtRecord) : Type 0 where
  pub before : List MrtRecord
  pub index : MrtRecord
  pub behind : List MrtRecord
  pub records : records_of octets ≡ before ++ index ∷ (behind ++ after)
  pub whole : end_of octets ≡ None
  pub place_is : length (indexes_of before) ≡ place
  pub others : place ≡ 0 → AllByRecursion IsOther before
  pub is_index : part_of index ≡ Index
  pub time_is : index.time ≡ time
  pub says : IsIndex index.body collector name peers
  pub has : AllHave behind rows

-- ---- the routes of a peer

-- the rows of the peer at a place of the index
abbrev pub rows_from : ℕ → List TableRow → List TableRow
rows_from place rows = filter (λ row. row.entry.peer == place) rows

-- the route of a row, with the right flags, unless the row is left out
abbrev pub told_by : TableRow → List TableRoute
told_by row =
    route_by (added_of row.prefix (mended row.entry.section)) row.prefix (mended row.entry.section)

-- the routes of a peer in a table that are not left out, in order
abbrev pub told_from : ℕ → List TableRow → List TableRoute
told_from place rows = flat_map told_by (rows_from place rows)
