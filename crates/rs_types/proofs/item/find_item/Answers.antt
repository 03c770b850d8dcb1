use Rattle.std.proofs.Common.{◌∙◌, sym}
use Rattle.rs_types.specs.Items.{split_of}
use Rattle.rs_types.proofs.section.ItemLemmas.{item_at-takes}
use Rattle.rs_types.proofs.section.PlaceLemmas.{look-here, look-past, look-end}
use Rattle.rs_types.proofs.item.find_item.Goals as goal

pub loop-front-smaller : goal.loop-front-smaller
loop-front-smaller c = item_at-takes c.loop-front.rest.now (split_of c.in-Some.front) (sym c.in-Some.ensures)

pub loop-front-preserved : goal.loop-front-preserved
loop-front-preserved c =
    sym (look-past c.args.kind c.loop-front.rest.now (split_of c.in-Some.front) (sym c.in-Some.ensures) c.if-front-kind.false)
    ∙ c.loop-front.invariant

pub returns-then-front-kind : goal.returns-then-front-kind
returns-then-front-kind c =
    sym (look-here c.args.kind c.loop-front.rest.now (split_of c.in-Some.front) (sym c.in-Some.ensures) c.if-front-kind.true)
    ∙ c.loop-front.invariant

pub returns : goal.returns
returns c = sym (look-end c.args.kind c.loop-front.rest.now (sym c.in_default.ensures)) ∙ c.loop-front.invariant
