use Rattle.std.proofs.Common.{length}
use Rattle.rs_update.proofs.found.FindLemmas.{FindsSoFar}
use Rattle.rs_update.proofs.found.find_items.Given as goal

abbrev pub invariant-loop-front : goal.invariant-loop-front
invariant-loop-front l = FindsSoFar l.section l.rest l.places l.end

abbrev pub decreases-loop-front : goal.decreases-loop-front
decreases-loop-front l = length l.rest
