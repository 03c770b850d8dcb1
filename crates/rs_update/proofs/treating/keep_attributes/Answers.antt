use Rattle.std.proofs.Common.{◌<◌, ◌∙◌, ◌++◌, [], refl, sym, ap, rules, arith, List, ℕ}
use Rattle.std.proofs.lemmas.List.{append-nil}
use Rattle.rs_update.specs.Handling.{is_kept, kept_section}
use Rattle.rs_types.specs.Items.{item_of, split_of}
use Rattle.rs_types.specs.Parts.{AreOctets}
use Rattle.rs_types.specs.Section.{items_of, section_fault}
use Rattle.rs_types.proofs.section.ItemLemmas.{item_at-takes}
use Rattle.rs_update.proofs.section.SectionLemmas.{none_seen}
use Rattle.rs_update.proofs.treating.HandlingLemmas.{keeps_on, keeps_end, taken_is_spelled, kept_items, kept_faultless, kept_bound}
use Rattle.rs_update.proofs.treating.keep_attributes.Goals as goal
use Rattle.rs_update.proofs.treating.keep_attributes.Goals.{then-is_keep+in_ok-extend_from_slice, else-is_keep}

pub loop-split-init : goal.loop-split-init
loop-split-init c = ([], none_seen, rw c.in_ok-kept.ensures.items refl, λ place. omega (arith, c.type_inv.section place))

pub slice_bounds-extend_from_slice-count : goal.slice_bounds-extend_from_slice-count
slice_bounds-extend_from_slice-count c =
    omega (arith, item_at-takes c.loop-split.rest.now (split_of c.in-Some.split) (sym c.in-Some.ensures))

pub loop-split-smaller : goal.loop-split-smaller
loop-split-smaller c = item_at-takes c.loop-split.rest.now (split_of c.in-Some.split) (sym c.in-Some.ensures)

pub loop-split-preserved : goal.loop-split-preserved
loop-split-preserved c =
    let octet : c.in-Some.split.0.kind < 256 = search rules in
    let held = c.loop-split.invariant in
    let rest = c.loop-split.rest.now in
    let behind = c.in-Some.split.1.now in
    let item = item_of c.in-Some.split.0 in
    let kept = c.loop-split.kept.items in
    let is = c.is_keep.ensures ∙ ap is_kept c.item_handling.ensures in
    let on = keeps_on c.loop-split.seen rest behind kept (kept_section c.args.section.now)
    item c.is_keep.result octet c.in-Some.ensures is held in
    rw c.from.ensures
    (elim c.if-is_keep.branch [
      | then-is_keep+in_ok-extend_from_slice w ↦
          let taken = taken_is_spelled rest behind item held.3 c.in-Some.ensures in
          let all = w.in_ok-extend_from_slice.ensures.items ∙ ap (λ (octets : List ℕ). kept ++ octets) taken in
          rw (w.kept-is, all) (rw w.if-is_keep.true at on)
      | else-is_keep w ↦ rw w.kept-is (rw (w.if-is_keep.false, append-nil) at on)
    ])

pub returns : goal.returns
returns c =
    let section = c.args.section.now in
    let fit : AreOctets section = λ place. omega (arith, c.type_inv.section place) in
    let is = keeps_end c.loop-split.seen c.loop-split.rest.now c.loop-split.kept.items (kept_section section)
    c.in_default.ensures c.loop-split.invariant in
    record {
      value = is;
      items = ap items_of is ∙ kept_items section fit;
      faultless = ap section_fault is ∙ kept_faultless section fit;
      bound = rw is (kept_bound section fit);
    }
