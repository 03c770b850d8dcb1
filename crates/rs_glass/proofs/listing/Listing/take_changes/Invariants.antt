use Rattle.std.proofs.Common.{length}
use Rattle.rs_mrt.specs.Record.{record_of}
use Rattle.rs_glass.proofs.HappenedLemmas.{AreTaken}
use Rattle.rs_glass.proofs.listing.Listing.take_changes.Given as goal

abbrev pub invariant-loop-left : goal.invariant-loop-left
invariant-loop-left l = AreTaken (record_of l.recorded) l.fn.changes l.left l.fn.self l.self

abbrev pub decreases-loop-left : goal.decreases-loop-left
decreases-loop-left l = length l.left
