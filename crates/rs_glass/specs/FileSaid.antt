-- The changes that the records of a peer's session give, each with its record (RFC 6396, section 4.4).
use Rattle.std.specs.Prelude.{List, [], ◌∷◌, ◌++◌, Option, None, Some, find, map}
use Rattle.std.specs.List.{flat_map}
use Rattle.std.specs.Option.{option_and_then}
use Rattle.rs_mrt.specs.Record.{MrtRecord}
use Rattle.rs_mrt.specs.declared.fault.SourceFault.{SourceFault}
use Rattle.rs_session.specs.Change.{Change}
use Rattle.rs_session.specs.Effect.{effect_of}
use Rattle.rs_session.specs.FileChanges.{changes_by, close_at, ends, open_records, reason_at_end}
use Rattle.rs_types.specs.declared.peer_id.PeerId.{PeerId}
use Rattle.rs_change.specs.declared.word.Reason.{Reason}
use Rattle.rs_update.specs.declared.errors.Errors.{Errors}
use Rattle.rs_glass.specs.Causes.{cause_behind}
use Rattle.rs_glass.specs.Microseconds.{microseconds_in}
use Rattle.rs_glass.specs.Moments.{later_of}
use Rattle.rs_glass.specs.declared.cause.Cause.{Cause}
use Rattle.rs_glass.specs.declared.moment.Moment.{Moment}

-- a change and the record that gave it; there is no record if the session closes because its file ends
pub record SaidChange : Type 0 where
  pub change : Change
  pub said_by : Option MrtRecord

-- ---- all changes of a session

-- the changes that a record gave, with the record
abbrev pub all_said_by : MrtRecord → List Change → List SaidChange
all_said_by r changes = map (λ change. record { change = change; said_by = Some r }) changes

abbrev pub said_of : Errors → PeerId → MrtRecord → List SaidChange
said_of errors peer r = all_said_by r (changes_by r.time (effect_of errors peer r))

-- the close at the end of a file
abbrev pub closing_at_end : Reason → SaidChange
closing_at_end reason = record { change = close_at 0 reason; said_by = None }

-- the close: it comes from the first record that ends the session, or else from the end of the file
abbrev pub said_last : Errors → PeerId → Option SourceFault → Option MrtRecord → List SaidChange
said_last errors peer end (Some r) = said_of errors peer r
said_last errors peer end None = closing_at_end (reason_at_end end) ∷ []

-- the changes of the records before the close, in order, and then the close
unfoldable pub said_in : Errors → PeerId → List MrtRecord → Option SourceFault → List SaidChange
said_in errors peer records end =
    flat_map (said_of errors peer) (open_records errors peer records)
    ++ said_last errors peer end (find (λ r. ends (effect_of errors peer r)) records)

-- ---- one change

-- why a change came; faults are handled by one of the standards
abbrev pub cause_in : Errors → SaidChange → Option Cause
cause_in errors one = cause_behind errors one.said_by one.change

-- when the record of a change came
abbrev pub moment_of : SaidChange → Moment
moment_of one = record { seconds = one.change.time; microseconds = option_and_then microseconds_in one.said_by }

-- the moment at which a change counts: that of its record, but no earlier than those of the changes before it in its
-- file
abbrev pub counts_at : List SaidChange → SaidChange → Moment
counts_at [] one = moment_of one
counts_at (first ∷ before) one = later_of (moment_of first) (counts_at before one)
