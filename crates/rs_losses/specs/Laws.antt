-- What is true of the definitions.
use Rattle.std.specs.Prelude.{◌≡◌, ◌^◌, ◌<◌, List}
use Rattle.rs_mrt.specs.Record.{MrtRecord}
use Rattle.rs_session.specs.Effect.{effect_of, loss}
use Rattle.rs_update.specs.declared.errors.Errors.{Errors}
use Rattle.rs_losses.specs.Losses.{from_the_first, loss_record, with_losses}
use Rattle.rs_losses.specs.WithLosses.{losses_along}
use Rattle.rs_losses.specs.declared.losses.Sought.{Sought}

-- the address and the AS number of a peer have four octets each
abbrev pub IsSought : Sought → Type 0
IsSought who = (who.peer.address < 2 ^ 32) × (who.peer.asn < 2 ^ 32)

-- the records that a source with losses shows are the records of the source with the losses inserted
abbrev pub ShownAreThose : Type 0
ShownAreThose =
    (who : Sought) (records : List MrtRecord) → IsSought who
    → losses_along (from_the_first who) records ≡ with_losses who records

-- the only meaning of a record that is inserted is that the session is lost, at the time of the record that tells of it
abbrev pub LossIsJustALoss : Type 0
LossIsJustALoss = (errors : Errors) (who : Sought) (r : MrtRecord) → IsSought who
    → effect_of errors who.peer (loss_record who r) ≡ loss r.time
