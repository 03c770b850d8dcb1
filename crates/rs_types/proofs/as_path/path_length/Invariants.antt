use Rattle.std.proofs.Common.{◌≡◌, ◌+◌, length}
use Rattle.rs_types.specs.AsPath.{path_length_of}
use Rattle.rs_types.specs.PathSegments.{segments_of}
use Rattle.rs_types.proofs.as_path.path_length.Given as goal

abbrev pub invariant-loop-front : goal.invariant-loop-front
invariant-loop-front l = l.hops + path_length_of (segments_of l.rest).0 ≡ path_length_of (segments_of l.value).0

abbrev pub decreases-loop-front : goal.decreases-loop-front
decreases-loop-front l = length l.rest
