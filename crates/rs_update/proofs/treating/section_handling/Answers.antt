use Rattle.std.proofs.Common.{◌<◌, ◌∙◌, [], refl, sym, rules}
use Rattle.rs_types.specs.Items.{item_of, split_of}
use Rattle.rs_update.specs.Handling.{strongest_in}
use Rattle.rs_types.proofs.section.ItemLemmas.{item_at-takes}
use Rattle.rs_update.proofs.section.SectionLemmas.{none_seen}
use Rattle.rs_update.proofs.treating.HandlingLemmas.{asks_on, asks_end, stronger-keep}
use Rattle.rs_update.proofs.treating.section_handling.Goals as goal

pub loop-split-init : goal.loop-split-init
loop-split-init c = ([], none_seen, refl)

pub loop-split-smaller : goal.loop-split-smaller
loop-split-smaller c = item_at-takes c.loop-split.rest.now (split_of c.in-Some.split) (sym c.in-Some.ensures)

pub loop-split-preserved : goal.loop-split-preserved
loop-split-preserved c =
    let octet : c.in-Some.split.0.kind < 256 = search rules in
    rw c.from.ensures (asks_on c.loop-split.seen c.loop-split.rest.now c.in-Some.split.1.now (item_of c.in-Some.split.0)
    c.loop-split.strongest c.item_handling.result c.stronger-strongest.result (strongest_in c.args.section.now)
    octet c.in-Some.ensures c.item_handling.ensures c.stronger-strongest.ensures c.loop-split.invariant)

pub returns-then-is_empty : goal.returns-then-is_empty
returns-then-is_empty c =
    let all = asks_end c.loop-split.seen c.loop-split.rest.now c.loop-split.strongest (strongest_in c.args.section.now)
    c.in_default.ensures c.loop-split.invariant in
    sym (stronger-keep c.loop-split.strongest) ∙ (rw (sym (c.is_empty.ensures) ∙ c.if-is_empty.true) at all)

pub returns : goal.returns
returns c =
    let all = asks_end c.loop-split.seen c.loop-split.rest.now c.loop-split.strongest (strongest_in c.args.section.now)
    c.in_default.ensures c.loop-split.invariant in
    c.stronger.ensures ∙ (rw (sym (c.is_empty.ensures) ∙ c.if-is_empty.false) at all)
