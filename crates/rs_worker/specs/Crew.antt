-- The workers of all peers.
use Rattle.std.specs.Prelude.{◌≡◌, ℕ, List}
use Rattle.std.specs.Prelude.{Option, Some, true, length, slice_get}
use Rattle.rs_mrt.specs.Record.{MrtRecord}
use Rattle.rs_ring.specs.Ends.{Ring, Receiving}
use Rattle.rs_session.specs.Stage.{Comes, May, fresh}
use Rattle.rs_change.specs.declared.word.Word.{Word}
use Rattle.rs_types.specs.declared.peer_id.PeerId.{PeerId}
use Rattle.rs_update.specs.declared.errors.Errors.{Errors}
use Rattle.rs_worker.specs.Worked.{MayGive, HasSent}
use Rattle.rs_worker.specs.declared.crew.Job.{Job}
use Rattle.rs_worker.specs.declared.crew.Joined.{Joined}
use Rattle.rs_worker.specs.declared.crew.WorkerOf.{WorkerOf}

-- the work of a worker: whose records it reads, how it handles faults, and through which ring it sends
pub record Charge (S : Type 0) : Type 0 where
  pub source : S
  pub peer : PeerId
  pub errors : Errors
  pub ring : Ring

abbrev pub charge_of : {S : Type 0} → Errors → Job S → Charge S
charge_of errors job = record { source = job.source; peer = job.id; errors = errors; ring = job.out.ring }

abbrev pub charged : {S : Type 0} → WorkerOf S → Charge S
charged promise =
    record { source = promise.source.value; peer = promise.id; errors = promise.errors; ring = promise.out.value.ring }

-- the changes that may come from the session of a worker
abbrev pub given_by : {S : Type 0} → Comes S → (S → Option MrtRecord) → Charge S → MayGive
given_by comes shows charge = May comes shows (fresh charge.source charge.peer charge.errors)

-- The changes that a worker sent, and how many they are. If the worker settled, they are the changes that were
-- received.
pub record HasJoined (may : MayGive) (received : List Word) (end : Joined) : Type 0 where
  pub sent : List Word
  pub sends : HasSent may sent end.reason end.passed
  pub counted : end.changes ≡ length sent
  pub settles : end.settled ≡ true → received ≡ sent

-- each worker sent what may come from its session; if it settled, its peer's receiver received all of it
abbrev pub AllJoined : {S : Type 0} → Comes S → (S → Option MrtRecord) → List (Charge S) → List (Receiving Word)
    → List Joined → Type 0
AllJoined {S = S} comes shows charges from ends =
    (peer : ℕ) (charge : Charge S) (receiver : Receiving Word) (end : Joined) →
    slice_get charges peer ≡ Some charge → slice_get from peer ≡ Some receiver → slice_get ends peer ≡ Some end →
    HasJoined (given_by comes shows charge) receiver.received end
