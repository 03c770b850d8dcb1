use Rattle.std.proofs.Common.{◌∙◌, sym, ap, Option, ℕ, List}
use Rattle.std.specs.Option.{option_or}
use Rattle.rs_types.specs.PathAttributes.{PathSegment}
use Rattle.rs_types.specs.Shapes.{segment_in, segments_in}
use Rattle.rs_import.specs.Import.{refused_as_of}
use Rattle.rs_import.proofs.PathLemmas.{none-or, refused-more, some-or}
use Rattle.rs_import.proofs.path.refused_as.Goals as goal

pub returns-then-is_some : goal.returns-then-is_some
returns-then-is_some c =
    let ranges = c.args.set.now in
    let found = c.first_in_segment-found.result in
    let rest = refused_as_of ranges (segments_in c.next.new.self) in
    sym (sym c.loop-segment.invariant
    ∙ (ap (λ (l : List PathSegment). refused_as_of ranges l) c.in-Some.ensures.steps
    ∙ (refused-more ranges (segment_in c.in-Some.segment) (segments_in c.next.new.self)
    ∙ (ap (λ (o : Option ℕ). option_or o rest) (sym c.first_in_segment-found.ensures)
    ∙ some-or found rest (sym c.is_some.ensures ∙ c.if-is_some.true)))))

pub loop-segment-preserved : goal.loop-segment-preserved
loop-segment-preserved c =
    let ranges = c.args.set.now in
    let found = c.first_in_segment-found.result in
    let rest = refused_as_of ranges (segments_in c.next.new.self) in
    sym (sym c.loop-segment.invariant
    ∙ (ap (λ (l : List PathSegment). refused_as_of ranges l) c.in-Some.ensures.steps
    ∙ (refused-more ranges (segment_in c.in-Some.segment) (segments_in c.next.new.self)
    ∙ (ap (λ (o : Option ℕ). option_or o rest) (sym c.first_in_segment-found.ensures)
    ∙ none-or found rest (sym c.is_some.ensures ∙ c.if-is_some.false)))))
