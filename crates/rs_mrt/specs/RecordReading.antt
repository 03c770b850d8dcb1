-- The records that a reader of records shows, of the octets that its reader gives (RFC 6396, section 2). Our choices:
-- at most 2^50 octets are taken from a reader. Of a record's body at most the first 4,121 octets are shown. If there
-- is a time, the records end before the first one that is later, whatever comes behind its header.
use Rattle.std.specs.Prelude.{◌≡◌, ℕ, ◌+◌, ◌-◌, nat_lt, if◌then◌else◌, Bool, List, [], ◌++◌, length, take, map, Option}
use Rattle.std.specs.Prelude.{Some, None, Result, Ok, Err, refl}
use Rattle.std.specs.Option.{option_map}
use Rattle.rs_mrt.specs.declared.fault.SourceFault.{SourceFault}
use Rattle.rs_mrt.specs.declared.fault.SourceFault.TheVariants.{Mrt, Read}
use Rattle.rs_mrt.specs.Reader.{ReadEnd, FileEnds, ReadFails, SomethingIsGiven}
use Rattle.rs_mrt.specs.Source.{SomethingComes}
use Rattle.rs_mrt.specs.Record.{MrtRecord, records_of, rest_of, fault_of_rest}
use Rattle.rs_mrt.specs.Bounds.{has_later, records_until}
use Rattle.rs_mrt.specs.Entry.{front_of}

-- ---- the octets

-- how many octets are taken from a reader in all
abbrev pub read_limit : ℕ
read_limit = 1125899906842624

-- The end of octets if at most so many are taken. If that many were taken, the reader isn't asked how its octets
-- end.
abbrev pub end_within : ℕ → List ℕ → ReadEnd → ReadEnd
end_within most octets end = if nat_lt (length octets) most then end else ReadFails

-- the reader, and how many octets came from it
pub record Inflow (R : Type 0) : Type 0 where
  pub reader : R
  pub came : ℕ

-- These octets and this end may still arrive: what the reader may give, up to the limit.
pub record MayArrive {R : Type 0} (gives : R → List ℕ → ReadEnd → Type 0) (inflow : Inflow R) (octets : List ℕ)
    (end : ReadEnd) : Type 0 where
  pub all : List ℕ
  pub last : ReadEnd
  pub given : gives inflow.reader all last
  pub cut : octets ≡ take (read_limit - inflow.came) all
  pub ends : end ≡ end_within (read_limit - inflow.came) all last

-- ---- the records

-- the end of the records if these octets are left over: a failed read, or what the rest means
abbrev pub fault_behind : ReadEnd → List ℕ → Option SourceFault
fault_behind ReadFails rest = Some Read
fault_behind FileEnds rest = option_map Mrt (fault_of_rest rest)

-- the records of these octets: without a time all of them, else those before the first one that is later
abbrev pub records_read : Option ℕ → List ℕ → List MrtRecord
records_read None octets = records_of octets
records_read (Some time) octets = records_until (Some time) octets

-- the end of these records: if a record is later than the time, whole or cut short, they end without a fault
abbrev pub end_read : Option ℕ → ReadEnd → List ℕ → Option SourceFault
end_read None end octets = fault_behind end (rest_of octets)
end_read (Some time) end octets =
    if has_later (Some time) octets then None else fault_behind end (rest_of octets)

-- These records may still be shown, and then this end or fault, if `held` are the octets at hand and others may
-- arrive. Of each record of all these octets that comes before the first later one, the front is shown.
pub record MayBeShown (until : Option ℕ) (arrive : List ℕ → ReadEnd → Type 0) (held : List ℕ)
    (records : List MrtRecord) (fault : Option SourceFault) : Type 0 where
  pub octets : List ℕ
  pub end : ReadEnd
  pub come : arrive octets end
  pub fronts : records ≡ map front_of (records_read until (held ++ octets))
  pub ends : fault ≡ end_read until end (held ++ octets)

-- ---- a reader of records

-- A reader of records: what arrives, the time up to which records are shown, the octets at hand behind the record
-- that is shown, and that record. `stopped` is the answer that it repeats from now on, if it has reached an end or a
-- fault. `place` is how many octets stand in the file before the record that was looked for last.
pub record RecordReading (R : Type 0) : Type 0 where
  pub inflow : Inflow R
  pub until : Option ℕ
  pub held : List ℕ
  pub shown : Option MrtRecord
  pub stopped : Option (Result Bool SourceFault)
  pub place : ℕ

-- a reader of records before its first record, whose records end before the first one that is later than a time
abbrev pub unread_until : {R : Type 0} → Option ℕ → R → RecordReading R
unread_until until reader =
    record {
      inflow = record { reader = reader; came = 0 };
      until = until;
      held = [];
      shown = None;
      stopped = None;
      place = 0;
    }

-- a reader of all records before its first one
abbrev pub unread : {R : Type 0} → R → RecordReading R
unread reader = unread_until None reader

-- the fault of an answer
abbrev pub fault_of : Result Bool SourceFault → Option SourceFault
fault_of (Ok more) = None
fault_of (Err fault) = Some fault

-- What may come of the octets. After an end or a fault was answered, no record comes, and the answer is repeated.
abbrev pub ComesUnless : Option (Result Bool SourceFault) → (List MrtRecord → Option SourceFault → Type 0)
    → List MrtRecord → Option SourceFault → Type 0
ComesUnless None comes records fault = comes records fault
ComesUnless (Some answer) comes records fault = (records ≡ []) × (fault ≡ fault_of answer)

-- these records may still come, and then this end or fault
abbrev pub MayCome : {R : Type 0} → (R → List ℕ → ReadEnd → Type 0) → RecordReading R → List MrtRecord
    → Option SourceFault → Type 0
MayCome gives reading =
    ComesUnless reading.stopped (MayBeShown reading.until (MayArrive gives reading.inflow) reading.held)

-- there is always something that may come
some_shown : {R : Type 0} (gives : R → List ℕ → ReadEnd → Type 0) (until : Option ℕ) (inflow : Inflow R)
    (held : List ℕ) → SomethingIsGiven (gives inflow.reader)
    → SomethingComes (MayBeShown until (MayArrive gives inflow) held)
some_shown gives until inflow held some =
    let octets = take (read_limit - inflow.came) some.0 in
    let end = end_within (read_limit - inflow.came) some.0 some.1 in
    let come : MayArrive gives inflow octets end =
    record { all = some.0; last = some.1; given = some.2; cut = refl; ends = refl } in (
      map front_of (records_read until (held ++ octets)),
      end_read until end
          (held ++ octets),
      record { octets = octets; end = end; come = come; fronts = refl; ends = refl },
    )

comes_unless : (stopped : Option (Result Bool SourceFault)) (comes : List MrtRecord → Option SourceFault → Type 0)
    → SomethingComes comes → SomethingComes (ComesUnless stopped comes)
comes_unless None comes some = some
comes_unless (Some answer) comes some = ([], fault_of answer, (refl, refl))

pub something_comes : {R : Type 0} (gives : R → List ℕ → ReadEnd → Type 0) (reading : RecordReading R)
    → SomethingIsGiven (gives reading.inflow.reader) → SomethingComes (MayCome gives reading)
something_comes gives reading some =
    comes_unless reading.stopped (MayBeShown reading.until (MayArrive gives reading.inflow) reading.held)
    (some_shown gives reading.until reading.inflow reading.held some)

-- at most so many octets: those at hand and those that are still taken
abbrev pub room_left : {R : Type 0} → RecordReading R → ℕ
room_left reading = length reading.held + (read_limit - reading.inflow.came)

-- After an end or a fault, a reader of records repeats its answer, stays as it is and reads no more.
abbrev pub StaysStopped : {R : Type 0} → RecordReading R → RecordReading R → Result Bool SourceFault → Type 0
StaysStopped old new result = (last : Result Bool SourceFault) → old.stopped ≡ Some last → (result ≡ last) × (new ≡ old)
