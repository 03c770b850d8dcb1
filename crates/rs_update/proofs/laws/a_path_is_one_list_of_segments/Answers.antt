use Rattle.rs_types.specs.PathSegments.{SpellsSegment, segment_at}
use Rattle.rs_types.proofs.fields.SegmentLemmas.{segment_shrinks, segment_reads}
use Rattle.rs_update.proofs.fields.SplitLemmas.{splits_as_read}
use Rattle.rs_update.proofs.laws.a_path_is_one_list_of_segments.Goals as goal

pub returns : goal.returns
returns c = λ octets parts rest are. splits_as_read segment_at SpellsSegment segment_shrinks segment_reads octets are parts rest
