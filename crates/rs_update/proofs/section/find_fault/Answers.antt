use Rattle.std.proofs.Common.{◌<◌, ◌∙◌, [], refl, sym, rules}
use Rattle.rs_types.specs.Items.{item_of, split_of}
use Rattle.rs_types.proofs.section.ItemLemmas.{item_at-takes}
use Rattle.rs_update.proofs.section.SectionLemmas.{none_seen, goes_on, ends_at, ends_with, all_types}
use Rattle.rs_update.proofs.section.find_fault.Goals as goal

pub loop-split-init : goal.loop-split-init
loop-split-init c = rw c.requires ([], none_seen, refl, refl)

pub returns-in-Some-item_fault-clause-fault : goal.returns-in-Some-item_fault-clause-fault
returns-in-Some-item_fault-clause-fault c =
    let octet : c.in-Some.split.0.kind < 256 = search rules in
    ends_at c.loop-split.seen c.loop-split.rest.now c.in-Some.split.1.now c.args.section.now (item_of c.in-Some.split.0)
    c.in-Some-item_fault.fault octet c.in-Some.ensures c.in-Some-item_fault.ensures c.loop-split.invariant

pub loop-split-smaller : goal.loop-split-smaller
loop-split-smaller c = item_at-takes c.loop-split.rest.now (split_of c.in-Some.split) (sym c.in-Some.ensures)

pub loop-split-preserved : goal.loop-split-preserved
loop-split-preserved c =
    let octet : c.in-Some.split.0.kind < 256 = search rules in
    rw c.from.ensures
    (goes_on c.loop-split.seen c.loop-split.rest.now c.in-Some.split.1.now c.args.section.now (item_of c.in-Some.split.0)
    octet c.in-Some.ensures c.in_default-item_fault.ensures c.loop-split.invariant)

pub returns-then-is_empty-clause-fault : goal.returns-then-is_empty-clause-fault
returns-then-is_empty-clause-fault c =
    let all = ends_with c.loop-split.seen c.loop-split.rest.now c.args.section.now c.in_default.ensures c.loop-split.invariant in
    rw (sym (c.is_empty.ensures) ∙ c.if-is_empty.true) at all

pub returns-then-is_empty-clause-types : goal.returns-then-is_empty-clause-types
returns-then-is_empty-clause-types c none =
    all_types c.loop-split.seen c.loop-split.rest.now c.args.section.now c.in_default.ensures c.loop-split.invariant

pub returns-clause-fault : goal.returns-clause-fault
returns-clause-fault c =
    let all = ends_with c.loop-split.seen c.loop-split.rest.now c.args.section.now c.in_default.ensures c.loop-split.invariant in
    rw (sym (c.is_empty.ensures) ∙ c.if-is_empty.false) at all
