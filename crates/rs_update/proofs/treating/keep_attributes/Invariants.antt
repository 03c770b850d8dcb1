use Rattle.std.proofs.Common.{length}
use Rattle.rs_update.specs.Handling.{kept_section}
use Rattle.rs_update.proofs.treating.HandlingLemmas.{KeepsSo}
use Rattle.rs_update.proofs.treating.keep_attributes.Given as goal

abbrev pub invariant-loop-split : goal.invariant-loop-split
invariant-loop-split l = KeepsSo l.seen l.rest l.kept.items (kept_section l.section)

abbrev pub decreases-loop-split : goal.decreases-loop-split
decreases-loop-split l = length l.rest
