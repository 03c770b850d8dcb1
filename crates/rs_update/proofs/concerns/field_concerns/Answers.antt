use Rattle.std.proofs.Common.{◌∙◌, ◌||◌, Bool, ap, sym, not, rules}
use Rattle.rs_update.specs.Concerns.{field_concerns}
use Rattle.rs_update.proofs.message.ConcernLemmas.{concerns_more, concerns_end}
use Rattle.rs_update.proofs.fields.PrefixLemmas.{prefix_at-shrinks}
use Rattle.rs_update.proofs.concerns.field_concerns.Goals as goal

pub returns-then-covers : goal.returns-then-covers
returns-then-covers c =
    let behind = c.in-Some.split.1.now in
    let more = concerns_more c.args.prefix c.in-Some.split.0 c.loop-split.rest.now behind c.in-Some.ensures in
    let here = sym c.covers.ensures ∙ c.if-covers.true in
    sym (ap (λ (b : Bool). b || field_concerns c.args.prefix behind) here) ∙ sym more ∙ c.loop-split.invariant

pub loop-split-smaller : goal.loop-split-smaller
loop-split-smaller c = prefix_at-shrinks c.loop-split.rest.now c.in-Some.split.0 c.in-Some.split.1.now (sym c.in-Some.ensures)

pub loop-split-preserved : goal.loop-split-preserved
loop-split-preserved c =
    let behind = c.in-Some.split.1.now in
    let more = concerns_more c.args.prefix c.in-Some.split.0 c.loop-split.rest.now behind c.in-Some.ensures in
    let not_here = sym c.covers.ensures ∙ c.if-covers.false in
    sym (ap (λ (b : Bool). b || field_concerns c.args.prefix behind) not_here) ∙ sym more ∙ c.loop-split.invariant

pub returns : goal.returns
returns c = ap not c.is_empty.ensures ∙ sym (concerns_end c.args.prefix c.loop-split.rest.now c.in_default.ensures) ∙ c.loop-split.invariant

pub loop-split-init : goal.loop-split-init
loop-split-init c = search rules
