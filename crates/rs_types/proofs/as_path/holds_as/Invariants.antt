use Rattle.std.proofs.Common.{◌≡◌, length}
use Rattle.rs_types.specs.AsPath.{holds_as_in}
use Rattle.rs_types.specs.PathSegments.{segments_of}
use Rattle.rs_types.proofs.as_path.holds_as.Given as goal

abbrev pub invariant-loop-front : goal.invariant-loop-front
invariant-loop-front l = holds_as_in (segments_of l.rest).0 l.asn ≡ holds_as_in (segments_of l.value).0 l.asn

abbrev pub decreases-loop-front : goal.decreases-loop-front
decreases-loop-front l = length l.rest
