use Rattle.std.proofs.Common.{length}
use Rattle.rs_update.specs.Handling.{strongest_in}
use Rattle.rs_update.proofs.treating.HandlingLemmas.{AsksSo}
use Rattle.rs_update.proofs.treating.section_handling.Given as goal

abbrev pub invariant-loop-split : goal.invariant-loop-split
invariant-loop-split l = AsksSo l.seen l.rest l.strongest (strongest_in l.section)

abbrev pub decreases-loop-split : goal.decreases-loop-split
decreases-loop-split l = length l.rest
