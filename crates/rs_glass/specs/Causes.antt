-- Why a change came, if its record says more than the change (RFC 4271, sections 4.5, 6.3 and 8.2.2; RFC 7606,
-- section 2).
use Rattle.std.specs.Prelude.{Bool, if◌then◌else◌, Option, None, Some}
use Rattle.std.specs.Option.{option_and_then, option_map}
use Rattle.rs_mrt.specs.Record.{MrtRecord}
use Rattle.rs_session.specs.Change.{Change, ChangeBody, Announced, Withdrawn, Lost, Closed}
use Rattle.rs_update.specs.declared.errors.Errors.{Errors}
use Rattle.rs_glass.specs.Losses.{loss_by}
use Rattle.rs_glass.specs.Treating.{treated_by}
use Rattle.rs_glass.specs.declared.cause.Cause.{Cause}
use Rattle.rs_glass.specs.declared.cause.Cause.TheVariants as causes
use Rattle.rs_glass.specs.declared.loss.Loss.{Loss}
use Rattle.rs_glass.specs.declared.loss.Loss.TheVariants as losses

-- of a withdrawal: the fault because of which its UPDATE is treated as a withdrawal, if there is one; of a loss: how
-- the session was lost
abbrev pub body_cause : Errors → MrtRecord → ChangeBody → Option Cause
body_cause errors recorded (Announced prefix attributes) = None
body_cause errors recorded (Withdrawn prefix) = option_map causes.Treated (treated_by errors prefix recorded)
body_cause errors recorded Lost = option_map causes.Lost (loss_by recorded)
body_cause errors recorded (Closed reason) = None

abbrev pub cause_by : Errors → Change → MrtRecord → Option Cause
cause_by errors change recorded = body_cause errors recorded change.body

-- the cause of a change, by the record that gave the change, if a record did
abbrev pub cause_behind : Errors → Option MrtRecord → Change → Option Cause
cause_behind errors said_by change = option_and_then (cause_by errors change) said_by

-- the cause of a change, if it is known whether its record was put in: a record is put in for an inferred loss alone
abbrev pub cause_known : Bool → Option Cause → Option Cause
cause_known put_in cause = if put_in then Some (causes.Lost losses.Inferred) else cause

-- how the session was lost, if the cause says that
abbrev pub loss_of_cause : Option Cause → Option Loss
loss_of_cause None = None
loss_of_cause (Some (causes.Lost loss)) = Some loss
loss_of_cause (Some (causes.Treated fault)) = None
