use Rattle.std.proofs.Common.{◌≡◌, ◌++◌, length}
use Rattle.rs_types.specs.Parts.{AreOctets}
use Rattle.rs_start.specs.RightFlags.{mended}
use Rattle.rs_start.proofs.flags.mended.Given as goal

-- what is appended, and the rest with the right flags, is the section with them
abbrev pub invariant-loop-split : goal.invariant-loop-split
invariant-loop-split l = (l.out.items ++ mended l.rest ≡ mended l.section) × AreOctets l.rest

abbrev pub decreases-loop-split : goal.decreases-loop-split
decreases-loop-split l = length l.rest
