use Rattle.std.proofs.Common.{◌∙◌, ◌+◌, ◌/◌, ◌^◌, ℕ, List, sym, ap, subst, rules, length}
use Rattle.std.specs.Prelude.{nat_lt}
use Rattle.std.proofs.lemmas.List.{length_push}
use Rattle.std.proofs.lemmas.List.Sorted.{IsPartitionPoint-from_clause}
use Rattle.rs_import.specs.Blocks.{AreStarts, IsStart}
use Rattle.rs_import.proofs.BlockLemmas.{parted-start, parts-blocks, starts-none, starts-push}
use Rattle.rs_import.proofs.blocks.starts_of.Goals as goal

pub loop-block-init : goal.loop-block-init
loop-block-init g c = (
  ap length c.in_ok-starts.ensures.items,
  starts-none g.T.Numbered.number_of c.args.items.now c.args.shift _ c.requires.shift c.in_ok-starts.ensures.items,
)

pub loop-block-preserved : goal.loop-block-preserved
loop-block-preserved g c =
    let number_of = g.T.Numbered.number_of in
    let items = c.args.items.now in
    let shift = c.args.shift in
    let block = c.loop-block.block-counter in
    let parted = IsPartitionPoint-from_clause (λ item. nat_lt (number_of item / 2 ^ shift) block) items c.partition_point-start.result
    c.partition_point-start.ensures.partitioned (parts-blocks number_of items shift block c.requires.rising) (λ a r f called. search rules) in
    let start = c.partition_point-start.result in
    let starts = c.loop-block.starts.items in
    let one = subst (λ (n : ℕ). IsStart number_of items shift n start) (sym c.loop-block.invariant.0)
    (parted-start number_of items shift block start c.partition_point-start.ensures.bound parted) in (
      ap length c.in_ok-push.ensures.items ∙ (length_push starts start ∙ ap (λ (n : ℕ). n + 1) c.loop-block.invariant.0),
      subst (λ (l : List ℕ). AreStarts number_of items shift l) (sym c.in_ok-push.ensures.items)
          (starts-push number_of items shift starts start c.loop-block.invariant.1 one),
    )

pub returns : goal.returns
returns g c = c.loop-block.invariant.1
