use Rattle.std.proofs.Common.{sym, ap, ◌∙◌, length, arith}
use Rattle.std.proofs.lemmas.Bool.{eqb-true, eqb-false}
use Rattle.rs_update.proofs.fields.PrefixLemmas.{prefix_at-shrinks, prefixes_more, counted_all, counted_none}
use Rattle.rs_update.proofs.prefix_list.count_prefixes.Goals as goal

pub loop-split-smaller : goal.loop-split-smaller
loop-split-smaller c = prefix_at-shrinks c.loop-split.rest.now c.in-Some.split.0 c.in-Some.split.1.now (sym c.in-Some.ensures)

pub loop-split-preserved : goal.loop-split-preserved
loop-split-preserved c =
    let less = prefix_at-shrinks c.loop-split.rest.now c.in-Some.split.0 c.in-Some.split.1.now (sym c.in-Some.ensures) in
    let more = prefixes_more c.loop-split.rest.now c.in-Some.split.0 c.in-Some.split.1.now c.in-Some.ensures in
    record {
      counted = omega (arith, ap (λ parts. length parts.0) more);
      left_over = sym (ap (λ parts. parts.1) more) ∙ c.loop-split.invariant.left_over;
      few = omega (arith, less);
    }

pub returns-then-is_empty : goal.returns-then-is_empty
returns-then-is_empty c =
    counted_all c.args.field.now c.loop-split.rest.now c.loop-split.count c.loop-split.invariant.counted c.loop-split.invariant.left_over
    c.in_default.ensures (eqb-true _ _ (sym c.if-is_empty.ensures))

pub returns-else-is_empty : goal.returns-else-is_empty
returns-else-is_empty c =
    counted_none c.args.field.now c.loop-split.rest.now c.loop-split.invariant.left_over c.in_default.ensures
    (eqb-false _ _ (sym c.if-is_empty.ensures))
