use Rattle.std.proofs.Common.{◌∙◌, sym}
use Rattle.rs_types.specs.Items.{split_of}
use Rattle.rs_types.specs.Shapes.{others_in}
use Rattle.rs_types.proofs.section.ItemLemmas.{item_at-takes}
use Rattle.rs_types.proofs.section.PlaceLemmas.{passed-step, passed-skip, passed-end}
use Rattle.rs_types.proofs.fields.ProgressLemmas.{one_less}
use Rattle.rs_types.proofs.attributes.OthersIterator.next.Goals as goal

pub returns-then-is_passed_on : goal.returns-then-is_passed_on
returns-then-is_passed_on c =
    let step = sym c.loop-front.invariant ∙ passed-step c.loop-front.self.octets.now (split_of c.in-Some.front) (sym c.in-Some.ensures)
    (sym c.if-is_passed_on.ensures) in
    record { steps = step; goes = one_less others_in _ _ _ _ step }

pub loop-front-smaller : goal.loop-front-smaller
loop-front-smaller c = item_at-takes c.loop-front.self.octets.now (split_of c.in-Some.front) (sym c.in-Some.ensures)

pub loop-front-preserved : goal.loop-front-preserved
loop-front-preserved c =
    sym (passed-skip c.loop-front.self.octets.now (split_of c.in-Some.front) (sym c.in-Some.ensures) (sym c.if-is_passed_on.ensures))
    ∙ c.loop-front.invariant

pub returns-clause-steps : goal.returns-clause-steps
returns-clause-steps c =
    let none = passed-end c.loop-front.self.octets.now (sym c.in_default.ensures) in
    (sym c.loop-front.invariant ∙ none, none)
