use Rattle.std.proofs.Common.{◌∙◌, sym, ap, ◌∷◌}
use Rattle.rs_types.specs.AsPath.{first_as_of}
use Rattle.rs_types.specs.PathSegments.{segments_of}
use Rattle.rs_types.specs.Segments.{segment_split_of}
use Rattle.rs_types.specs.Shapes.{segment_in}
use Rattle.rs_types.proofs.as_path.PathWalkLemmas.{segments-step, segments-end, first_as-is}
use Rattle.rs_types.proofs.as_path.first_as.Goals as goal

pub returns-in_err-split_segment : goal.returns-in_err-split_segment
returns-in_err-split_segment c =
    c.from_residual.ensures ∙ sym (ap first_as_of (segments-end c.args.value.now (sym c.in_err-split_segment.ensures)))

pub returns-in-Set : goal.returns-in-Set
returns-in-Set c =
    let later = (segments_of c.in_ok-split_segment.field-0.1.now).0 in
    sym (ap first_as_of (segments-step c.args.value.now (segment_split_of c.in_ok-split_segment.field-0)
    (sym c.in_ok-split_segment.ensures))
    ∙ ap (λ segment. first_as_of (segment_in segment ∷ later)) c.in-Set.is)

pub returns-in-Sequence : goal.returns-in-Sequence
returns-in-Sequence c =
    let later = (segments_of c.in_ok-split_segment.field-0.1.now).0 in
    first_as-is _ _ later c.next.result c.next.ensures.steps
    ∙ sym (ap first_as_of (segments-step c.args.value.now (segment_split_of c.in_ok-split_segment.field-0)
    (sym c.in_ok-split_segment.ensures))
    ∙ ap (λ segment. first_as_of (segment_in segment ∷ later)) c.in-Sequence.is)
