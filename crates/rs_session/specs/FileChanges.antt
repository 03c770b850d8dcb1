-- The changes that the records of a peer's session give (RFC 4271, section 3.1; RFC 6396, section 4.4).
use Rattle.std.specs.Prelude.{ℕ, Bool, true, false, not, List, [], ◌∷◌, ◌++◌, Option, Some, None, find, take_while}
use Rattle.std.specs.Prelude.{count_by}
use Rattle.std.specs.List.{flat_map}
use Rattle.rs_mrt.specs.Fault.{number_of}
use Rattle.rs_mrt.specs.Record.{MrtRecord, records_of, end_of}
use Rattle.rs_mrt.specs.Source.{source_end}
use Rattle.rs_mrt.specs.declared.fault.SourceFault.{SourceFault}
use Rattle.rs_mrt.specs.declared.fault.SourceFault.TheVariants as faults
use Rattle.rs_change.specs.Change.{Change, Closed}
use Rattle.rs_session.specs.Effect.{RecordEffect, PassesOver, Gives, Ends, effect_of}
use Rattle.rs_update.specs.declared.errors.Errors.{Errors}
use Rattle.rs_update.specs.declared.errors.Errors.TheVariants.{Rfc4271}
use Rattle.rs_types.specs.declared.peer_id.PeerId.{PeerId}
use Rattle.rs_change.specs.declared.word.Reason.{Reason}
use Rattle.rs_change.specs.declared.word.Reason.TheVariants.{EndOfFile, Mrt, Read}

-- ---- one record

-- whether the record ends the session
abbrev pub ends : RecordEffect → Bool
ends (Ends reason) = true
ends (Gives changes) = false
ends PassesOver = false

-- whether the record is passed over
abbrev pub passes_over : RecordEffect → Bool
passes_over PassesOver = true
passes_over (Gives changes) = false
passes_over (Ends reason) = false

-- the close of a session at a time, for a reason
abbrev pub close_at : ℕ → Reason → Change
close_at time reason = record { time = time; body = Closed reason }

-- the changes of a record with this effect, at the time of the record
abbrev pub changes_by : ℕ → RecordEffect → List Change
changes_by time PassesOver = []
changes_by time (Gives changes) = changes
changes_by time (Ends reason) = close_at time reason ∷ []

-- ---- all records

-- the records before the first one that ends the session
abbrev pub open_records : Errors → PeerId → List MrtRecord → List MrtRecord
open_records errors peer records = take_while (λ r. not (ends (effect_of errors peer r))) records

-- why a session closes if no record ends it; such a close has time 0 (our choice)
abbrev pub reason_at_end : Option SourceFault → Reason
reason_at_end None = EndOfFile
reason_at_end (Some (faults.Mrt fault)) = Mrt (number_of fault)
reason_at_end (Some faults.Read) = Read

-- the close: it comes from the first record that ends the session, or else from the end of the file
abbrev pub closing : Errors → PeerId → Option SourceFault → Option MrtRecord → List Change
closing errors peer end (Some r) = changes_by r.time (effect_of errors peer r)
closing errors peer end None = close_at 0 (reason_at_end end) ∷ []

-- all changes of a session: those of the records before the close, in order, and then the close
unfoldable pub changes_of : Errors → PeerId → List MrtRecord → Option SourceFault → List Change
changes_of errors peer records end =
    flat_map (λ r. changes_by r.time (effect_of errors peer r)) (open_records errors peer records)
    ++ closing errors peer end (find (λ r. ends (effect_of errors peer r)) records)

-- how many records are passed over while the session is open
unfoldable pub passed_of : Errors → PeerId → List MrtRecord → ℕ
passed_of errors peer records = count_by (λ r. passes_over (effect_of errors peer r)) (open_records errors peer records)

-- ---- a file

-- all changes of a peer's session in a file; faults in messages are handled by one of the standards
abbrev pub changes_in_by : Errors → PeerId → List ℕ → List Change
changes_in_by errors peer file = changes_of errors peer (records_of file) (source_end (end_of file))

-- how many records of the file are passed over before the close
abbrev pub passed_in_by : Errors → PeerId → List ℕ → ℕ
passed_in_by errors peer file = passed_of errors peer (records_of file)

-- the standard for faults, if none is named: RFC 4271
abbrev pub default_standard : Errors
default_standard = Rfc4271

abbrev pub changes_in : PeerId → List ℕ → List Change
changes_in peer file = changes_in_by default_standard peer file

abbrev pub passed_in : PeerId → List ℕ → ℕ
passed_in peer file = passed_in_by default_standard peer file
