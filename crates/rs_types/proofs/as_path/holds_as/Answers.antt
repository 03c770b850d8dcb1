use Rattle.std.proofs.Common.{◌∙◌, sym, ap, ◌||◌, Bool}
use Rattle.rs_types.specs.AsPath.{holds_as_in}
use Rattle.rs_types.specs.PathAttributes.{PathSegment}
use Rattle.rs_types.specs.PathSegments.{segments_of}
use Rattle.rs_types.specs.Segments.{segment_split_of}
use Rattle.rs_types.proofs.as_path.PathWalkLemmas.{segments-step, segments-end}
use Rattle.rs_types.proofs.fields.SegmentLemmas.{segment_at-takes}
use Rattle.std.proofs.Common.{List}
use Rattle.rs_types.proofs.as_path.holds_as.Goals as goal

pub returns-then-holds : goal.returns-then-holds
returns-then-holds c =
    let step = ap (λ (path : List PathSegment). holds_as_in path c.args.asn)
    (segments-step c.loop-front.rest.now (segment_split_of c.in-Some.front) (sym c.in-Some.ensures)) in
    ap (λ (held : Bool). held || holds_as_in (segments_of c.in-Some.front.1.now).0 c.args.asn) c.if-holds.ensures ∙ sym step
    ∙ c.loop-front.invariant

pub loop-front-smaller : goal.loop-front-smaller
loop-front-smaller c = segment_at-takes c.loop-front.rest.now (segment_split_of c.in-Some.front) (sym c.in-Some.ensures)

pub loop-front-preserved : goal.loop-front-preserved
loop-front-preserved c =
    let step = ap (λ (path : List PathSegment). holds_as_in path c.args.asn)
    (segments-step c.loop-front.rest.now (segment_split_of c.in-Some.front) (sym c.in-Some.ensures)) in
    ap (λ (held : Bool). held || holds_as_in (segments_of c.in-Some.front.1.now).0 c.args.asn) c.if-holds.ensures ∙ sym step
    ∙ c.loop-front.invariant

pub returns : goal.returns
returns c =
    sym (ap (λ (path : List PathSegment). holds_as_in path c.args.asn) (segments-end c.loop-front.rest.now (sym c.in_default.ensures)))
    ∙ c.loop-front.invariant
