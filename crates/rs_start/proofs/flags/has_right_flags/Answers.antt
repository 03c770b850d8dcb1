use Rattle.std.proofs.Common.{sym}
use Rattle.rs_types.specs.Items.{split_of}
use Rattle.rs_types.proofs.section.ItemLemmas.{item_at-takes}
use Rattle.rs_types.proofs.section.ReceivedLemmas.{item_at-reads}
use Rattle.rs_start.proofs.FlagsLemmas.{mended-end, mended-right}
use Rattle.rs_start.proofs.flags.has_right_flags.Goals as goal

pub loop-split-smaller : goal.loop-split-smaller
loop-split-smaller c = item_at-takes c.loop-split.rest.now (split_of c.in-Some.split) (sym c.in-Some.ensures)

pub loop-split-preserved : goal.loop-split-preserved
loop-split-preserved c =
    let held = c.loop-split.invariant in
    let rest = c.loop-split.rest.now in
    let split = split_of c.in-Some.split in
    let there = sym c.in-Some.ensures in (
      λ later. held.0 (mended-right rest split held.1 there (c.is_right.ensures c.if-not-is_right.false) later),
      (item_at-reads rest split held.1 there).1,
    )

pub returns : goal.returns
returns c = λ is. c.loop-split.invariant.0 (mended-end c.loop-split.rest.now (sym c.in_default.ensures))
