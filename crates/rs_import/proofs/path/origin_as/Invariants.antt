use Rattle.std.proofs.Common.{◌≡◌, map, length}
use Rattle.rs_types.specs.Shapes.{segments_in}
use Rattle.rs_import.specs.Rpki.{last_or, origin_of, origin_of_segment}
use Rattle.rs_import.proofs.path.origin_as.Given as goal

-- the origin is that of the last segment to come, or if none comes, that of the last so far
abbrev pub invariant-loop-segment : goal.invariant-loop-segment
invariant-loop-segment l =
    last_or l.origin (map origin_of_segment (segments_in l.segments)) ≡ origin_of l.own_as l.attributes.path

abbrev pub decreases-loop-segment : goal.decreases-loop-segment
decreases-loop-segment l = length (segments_in l.segments)
