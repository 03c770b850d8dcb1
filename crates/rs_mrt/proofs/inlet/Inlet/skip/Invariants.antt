use Rattle.rs_mrt.proofs.record_reader.InflowLemmas.{SoFar}
use Rattle.rs_mrt.proofs.inlet.Inlet.skip.Given as goal

abbrev pub invariant-loop-left : goal.invariant-loop-left
invariant-loop-left g l = SoFar g.R.Read.gives g.R.Read.failures l.fn.self l.self l.count l.left

abbrev pub decreases-loop-left : goal.decreases-loop-left
decreases-loop-left g l = l.left
