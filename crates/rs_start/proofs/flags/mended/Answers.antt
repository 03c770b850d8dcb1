use Rattle.std.proofs.Common.{◌∙◌, ◌++◌, List, ℕ, sym, ap, append_assoc}
use Rattle.rs_types.specs.Items.{split_of}
use Rattle.rs_types.specs.Spelling.{spelled_item}
use Rattle.rs_types.proofs.section.ItemLemmas.{item_at-takes}
use Rattle.rs_types.proofs.section.ReceivedLemmas.{item_at-reads}
use Rattle.rs_start.specs.RightFlags.{mended, with_right_flags}
use Rattle.rs_start.proofs.FlagsLemmas.{mended-step, mended-end}
use Rattle.rs_start.proofs.flags.mended.Goals as goal

pub loop-split-smaller : goal.loop-split-smaller
loop-split-smaller c = item_at-takes c.loop-split.rest.now (split_of c.in-Some.split) (sym c.in-Some.ensures)

pub push_mended-requires : goal.push_mended-requires
push_mended-requires c =
    (item_at-reads c.loop-split.rest.now (split_of c.in-Some.split) c.loop-split.invariant.1 (sym c.in-Some.ensures)).2.length_fits

pub loop-split-preserved : goal.loop-split-preserved
loop-split-preserved c =
    let out = c.loop-split.out.items in
    let rest = c.loop-split.rest.now in
    let split = split_of c.in-Some.split in
    let there = sym c.in-Some.ensures in
    let item = spelled_item (with_right_flags split.0) in (
      ap (λ (octets : List ℕ). octets ++ mended split.1) c.in_ok-push_mended.ensures ∙ append_assoc out item (mended split.1)
          ∙ ap (λ (octets : List ℕ). out ++ octets) (sym (mended-step rest split there)) ∙ c.loop-split.invariant.0,
      (item_at-reads rest split c.loop-split.invariant.1 there).1,
    )

pub returns : goal.returns
returns c =
    c.in_ok-extend_from_slice.ensures.items
    ∙ ap (λ (octets : List ℕ). c.loop-split.out.items ++ octets) (sym (mended-end c.loop-split.rest.now (sym c.in_default.ensures)))
    ∙ c.loop-split.invariant.0
