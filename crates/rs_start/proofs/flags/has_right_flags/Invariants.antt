use Rattle.std.proofs.Common.{◌≡◌, length}
use Rattle.rs_types.specs.Parts.{AreOctets}
use Rattle.rs_start.specs.RightFlags.{mended}
use Rattle.rs_start.proofs.flags.has_right_flags.Given as goal

-- if the rest has the right flags, the section has them
abbrev pub invariant-loop-split : goal.invariant-loop-split
invariant-loop-split l = (mended l.rest ≡ l.rest → mended l.section ≡ l.section) × AreOctets l.rest

abbrev pub decreases-loop-split : goal.decreases-loop-split
decreases-loop-split l = length l.rest
