use Rattle.std.proofs.Common.{◌≡◌, length}
use Rattle.rs_types.specs.Shapes.{segments_in}
use Rattle.rs_import.specs.Import.{refused_as_of}
use Rattle.rs_import.proofs.path.refused_as.Given as goal

-- no segment so far has a number in the set
abbrev pub invariant-loop-segment : goal.invariant-loop-segment
invariant-loop-segment l = refused_as_of l.set (segments_in l.segments) ≡ refused_as_of l.set l.attributes.path

abbrev pub decreases-loop-segment : goal.decreases-loop-segment
decreases-loop-segment l = length (segments_in l.segments)
