-- What a source of records may give. Our choice: this is a relation, so that it also means something if the octets
-- to come aren't known, as those of a reader.
use Rattle.std.specs.Prelude.{◌≡◌, ◌⊎◌, ℕ, ◌+◌, Bool, true, false, List, [], ◌∷◌, Option, Some, None, Result, Ok, Err}
use Rattle.std.specs.Option.{option_map}
use Rattle.rs_mrt.specs.declared.fault.MrtFault.{MrtFault}
use Rattle.rs_mrt.specs.declared.fault.SourceFault.{SourceFault}
use Rattle.rs_mrt.specs.declared.fault.SourceFault.TheVariants.{Mrt, Read}
use Rattle.rs_mrt.specs.Record.{MrtRecord, Reading}

-- What an answer to `advance` says of the records that may come; `shown` is the record that is shown after the call.
-- If there is a record, whatever may come after the call may come before it, with the record in front. At an end or
-- a fault, it is possible that no record was to come. So each whole record is shown before a fault or a failed read
-- is answered.
abbrev pub Advances : {S : Type 0} → (S → List MrtRecord → Option SourceFault → Type 0) → S → S → Option MrtRecord
    → Result Bool SourceFault → Type 0
Advances comes old new (Some r) (Ok true) =
    (later : List MrtRecord) (end : Option SourceFault) → comes new later end → comes old (r ∷ later) end
Advances comes old new None (Ok true) = ⊥
Advances comes old new shown (Ok false) = (shown ≡ None) × comes old [] None
Advances comes old new shown (Err fault) = (shown ≡ None) × comes old [] (Some fault)

-- A failed read is counted. If the source is full or repeats its answer, the answer `Read` comes without a failed
-- read.
abbrev pub CountsFailure : ℕ → ℕ → Type 0 → Option (Result Bool SourceFault) → Result Bool SourceFault → Type 0
CountsFailure before after full stopped (Err Read) =
    (after ≡ before + 1) ⊎ ((after ≡ before) × (full ⊎ (stopped ≡ Some (Err Read))))
CountsFailure before after full stopped (Err (Mrt fault)) = after ≡ before
CountsFailure before after full stopped (Ok more) = after ≡ before

-- After an end or a fault, a source repeats its answer and reads no more.
abbrev pub Stays : Option (Result Bool SourceFault) → ℕ → ℕ → Result Bool SourceFault → Type 0
Stays None before after answer = Unit {0}
Stays (Some last) before after answer = (answer ≡ last) × (after ≡ before)

-- After a record the source goes on; any other answer is its last one.
abbrev pub Stops : Option (Result Bool SourceFault) → Result Bool SourceFault → Type 0
Stops stopped (Ok true) = stopped ≡ None
Stops stopped (Ok false) = stopped ≡ Some (Ok false)
Stops stopped (Err fault) = stopped ≡ Some (Err fault)

-- There are records and an end that may come.
abbrev pub SomethingComes : (List MrtRecord → Option SourceFault → Type 0) → Type 0
SomethingComes comes = (records : List MrtRecord) × (end : Option SourceFault) × comes records end

-- ---- the records of a file as a source

-- the end of the records of a file, as a source answers it; no read fails, since the file is in memory
abbrev pub source_end : Option MrtFault → Option SourceFault
source_end end = option_map Mrt end

-- exactly the records that are left may come, and then the end that the file has
abbrev pub IsLeft : Reading → List MrtRecord → Option SourceFault → Type 0
IsLeft reading later end = (later ≡ reading.left) × (end ≡ source_end reading.end)

-- the answer that is repeated: there is one if no record is shown and none is left
abbrev pub stopped_at : Option MrtRecord → List MrtRecord → Option MrtFault → Option (Result Bool SourceFault)
stopped_at (Some r) left end = None
stopped_at None (r ∷ later) end = None
stopped_at None [] None = Some (Ok false)
stopped_at None [] (Some fault) = Some (Err (Mrt fault))
