-- A table that is being read, record by record. Nothing here is from a standard: all of it is our choice.
use Rattle.std.specs.Prelude.{◌≡◌, ℕ, ◌<◌, List, [], ◌∷◌, ◌++◌, length, take, Option, Some, None, Result, Ok, Err}
use Rattle.std.specs.List.{AllByRecursion}
use Rattle.rs_mrt.specs.Reader.{ReadEnd, FileEnds}
use Rattle.rs_mrt.specs.Record.{MrtRecord, records_of, rest_of}
use Rattle.rs_start.specs.Table.{IsIndex}
use Rattle.rs_start.specs.TableFile.{IsOther, indexes_of, part_of}
use Rattle.rs_start.specs.declared.fault.TableFault.{TableFault}
use Rattle.rs_start.specs.declared.index.IndexPeer.{IndexPeer}
use Rattle.rs_start.specs.declared.part.Part.TheVariants.{Index}
use Rattle.rs_start.specs.declared.table_reader.Head.{Head}

-- the reader, and octets that begin with the body of the record read last
pub record TableReading (R : Type 0) : Type 0 where
  pub reader : R
  pub body : List ℕ

-- the record that has this head, if these octets begin with its body
abbrev pub record_at : Head → List ℕ → MrtRecord
record_at head body =
    record { time = head.time; kind = head.kind; subtype = head.subtype; body = take head.len body }

-- Octets came: they, and then what may come in the new state, may come in the old state.
abbrev pub Came : (List ℕ → ReadEnd → Type 0) → (List ℕ → ReadEnd → Type 0) → List ℕ → Type 0
Came old new octets = (later : List ℕ) (end : ReadEnd) → new later end → old (octets ++ later) end

-- so many octets of a piece came: the whole piece, or all that the file had left
pub record Fills (old new : List ℕ → ReadEnd → Type 0) (piece : List ℕ) (count : ℕ) : Type 0 where
  pub came : count ≡ length piece → Came old new piece
  pub ends : count < length piece → old (take count piece) FileEnds

-- the octets of these records came
pub record Takes (old new : List ℕ → ReadEnd → Type 0) (records : List MrtRecord) : Type 0 where
  pub octets : List ℕ
  pub came : Came old new octets
  pub are : (later : List ℕ) → records_of (octets ++ later) ≡ records ++ records_of later
  pub end : (later : List ℕ) → rest_of (octets ++ later) ≡ rest_of later

-- the next record was read; if there is none, the file could end at once
abbrev pub Reads : {R : Type 0} → (R → List ℕ → ReadEnd → Type 0) → TableReading R → TableReading R
    → Result (Option Head) TableFault → Type 0
Reads gives old new (Ok None) = gives old.reader [] FileEnds
Reads gives old new (Ok (Some head)) = Takes (gives old.reader) (gives new.reader) (record_at head new.body ∷ [])
Reads gives old new (Err fault) = Unit {0}

-- The index of the table at a place was read, and the records before it, which are those of so many other tables.
-- Before the index of the first table there are only records of other kinds.
pub record ReadsIndex {R : Type 0} (gives : R → List ℕ → ReadEnd → Type 0) (old new : TableReading R)
    (place time collector : ℕ) (name : List ℕ) (peers : List IndexPeer) : Type 0 where
  pub before : List MrtRecord
  pub index : MrtRecord
  pub takes : Takes (gives old.reader) (gives new.reader) (before ++ index ∷ [])
  pub place_is : length (indexes_of before) ≡ place
  pub others : place ≡ 0 → AllByRecursion IsOther before
  pub is_index : part_of index ≡ Index
  pub time_is : index.time ≡ time
  pub says : IsIndex index.body collector name peers
