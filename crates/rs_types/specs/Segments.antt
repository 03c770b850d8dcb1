-- Segments of an AS_PATH at their places in a message, as values (RFC 4271, section 4.3).
use Rattle.std.specs.Prelude.{ℕ, List}
use Rattle.std.specs.Borrow.{Bor}
use Rattle.rs_types.specs.declared.as_path.SegmentView.{SegmentView}
use Rattle.rs_types.specs.PathAttributes.{PathSegment}
use Rattle.rs_types.specs.Shapes.{segment_in}

-- a segment and the octets behind it
abbrev pub segment_split_of : SegmentView × Bor (List ℕ) → PathSegment × List ℕ
segment_split_of split = (segment_in split.0, split.1.now)
