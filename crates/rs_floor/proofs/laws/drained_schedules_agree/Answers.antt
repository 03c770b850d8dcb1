-- Peer by peer.
use Rattle.rs_floor.proofs.schedule.ReplayLemmas.{drained}
use Rattle.rs_floor.proofs.laws.drained_schedules_agree.Goals as goal

pub returns : goal.returns
returns c = drained
