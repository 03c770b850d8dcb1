-- A source of records whose end may cut a record short, in its header or in its body (RFC 6396, section 2). Our
-- choice: if the tail is lenient, such a record is left out, and the records end before it.
use Rattle.std.specs.Prelude.{◌≡◌, Bool, false, List, Option, Some, None, Result, Ok, Err, refl}
use Rattle.std.specs.Option.{option_map}
use Rattle.rs_mrt.specs.declared.bounds.Bounds.{Bounds}
use Rattle.rs_mrt.specs.declared.bounds.Tail.{Tail}
use Rattle.rs_mrt.specs.declared.bounds.Tail.TheVariants.{Strict, Lenient}
use Rattle.rs_mrt.specs.declared.fault.MrtFault.TheVariants.{HeaderCutShort, BodyCutShort, FieldsCutShort}
use Rattle.rs_mrt.specs.declared.fault.MrtFault.TheVariants.{MicrosecondsCutShort}
use Rattle.rs_mrt.specs.declared.fault.SourceFault.{SourceFault}
use Rattle.rs_mrt.specs.declared.fault.SourceFault.TheVariants.{Mrt, Read}
use Rattle.rs_mrt.specs.Record.{MrtRecord}
use Rattle.rs_mrt.specs.RecordReading.{RecordReading, unread_until}
use Rattle.rs_mrt.specs.Source.{SomethingComes}

-- another source, and what becomes of a record that its end cuts short
pub record Leniency (S : Type 0) : Type 0 where
  pub source : S
  pub tail : Tail

-- a reader of records within bounds, before its first record
abbrev pub unread_within : {R : Type 0} → Bounds → R → Leniency (RecordReading R)
unread_within bounds reader = record { source = unread_until bounds.until reader; tail = bounds.tail }

-- The end of the records, if the source ends so. With a lenient tail a record that is cut short is no fault. A failed
-- read still is one, and so is a whole record whose octets are at fault.
abbrev pub end_by : Tail → Option SourceFault → Option SourceFault
end_by Strict end = end
end_by Lenient None = None
end_by Lenient (Some (Mrt HeaderCutShort)) = None
end_by Lenient (Some (Mrt BodyCutShort)) = None
end_by Lenient (Some (Mrt FieldsCutShort)) = Some (Mrt FieldsCutShort)
end_by Lenient (Some (Mrt MicrosecondsCutShort)) = Some (Mrt MicrosecondsCutShort)
end_by Lenient (Some Read) = Some Read

-- the answer at an end of the records
abbrev pub answer_at_end : Option SourceFault → Result Bool SourceFault
answer_at_end None = Ok false
answer_at_end (Some fault) = Err fault

-- the answer, if the source answers so: where it is a fault, that of the end
abbrev pub answer_by : Tail → Result Bool SourceFault → Result Bool SourceFault
answer_by tail (Ok more) = Ok more
answer_by tail (Err fault) = answer_at_end (end_by tail (Some fault))

-- the answer that is repeated, if the source repeats this one
abbrev pub stopped_by : Tail → Option (Result Bool SourceFault) → Option (Result Bool SourceFault)
stopped_by tail stopped = option_map (answer_by tail) stopped

-- these records may still come, and then this end: the source gives them, and its own end means this one
abbrev pub ComesBy : {S : Type 0} → (S → List MrtRecord → Option SourceFault → Type 0) → Leniency S → List MrtRecord
    → Option SourceFault → Type 0
ComesBy comes l records end = (last : Option SourceFault) × comes l.source records last × (end ≡ end_by l.tail last)

-- there is always something that may come
pub comes_by : {S : Type 0} (comes : S → List MrtRecord → Option SourceFault → Type 0) (l : Leniency S)
    → SomethingComes (comes l.source) → SomethingComes (ComesBy comes l)
comes_by comes l some = (some.0, end_by l.tail some.1, (some.1, some.2, refl))
