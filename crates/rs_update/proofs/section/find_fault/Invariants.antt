use Rattle.std.proofs.Common.{length}
use Rattle.rs_update.proofs.section.SectionLemmas.{GoesOn}
use Rattle.rs_update.proofs.section.find_fault.Given as goal

abbrev pub invariant-loop-split : goal.invariant-loop-split
invariant-loop-split l = GoesOn l.seen l.rest l.section

abbrev pub decreases-loop-split : goal.decreases-loop-split
decreases-loop-split l = length l.rest
