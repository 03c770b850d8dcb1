use Rattle.std.proofs.Common.{◌∙◌, ◌<◌, length, slice_index_or, refl, arith}
use Rattle.rs_dump.proofs.SideLemmas.{can-go, on-none, on-then, written-then}
use Rattle.rs_dump.proofs.side_by_side.write_in_turns.Goals as goal

pub loop-turn-preserved : goal.loop-turn-preserved
loop-turn-preserved g c =
    let W = g.W.Write in
    let old = c.args.writings.now in
    let now = c.loop-turn.writings in
    let so_far = c.loop-turn.invariant in
    record {
      count = c.write_turns.ensures.count ∙ so_far.count;
      each = λ k d below.
          let within : k < length now = omega (arith, below, so_far.count) in
          on-then W.taken W.failures W.label (slice_index_or old k d) (slice_index_or now k d)
          (slice_index_or c.write_turns.new.writings k d) (so_far.each k d below) (c.write_turns.ensures.each k d within);
    }

pub returns-clause-written : goal.returns-clause-written
returns-clause-written g c = λ k d below.
    let W = g.W.Write in
    let old = c.args.writings.now in
    let now = c.loop-turn.writings in
    let so_far = c.loop-turn.invariant in
    let within : k < length now = omega (arith, below, so_far.count) in
    written-then W.taken W.failures W.label (slice_index_or old k d) (slice_index_or now k d)
    (slice_index_or c.write_rests.new.writings k d) (so_far.each k d below) (c.write_rests.ensures.each k d within)

pub loop-turn-init : goal.loop-turn-init
loop-turn-init g c =
    let W = g.W.Write in
    record {
      count = refl;
      each = λ k d below. on-none W.taken W.failures W.label (slice_index_or c.args.writings.now k d) (c.requires k d below).0;
    }

pub write_turns-requires : goal.write_turns-requires
write_turns-requires g c = λ k d below.
    let W = g.W.Write in
    let old = c.args.writings.now in
    let now = c.loop-turn.writings in
    let so_far = c.loop-turn.invariant in
    let within : k < length old = omega (arith, below, so_far.count) in
    can-go W.taken W.failures W.label (slice_index_or old k d) (slice_index_or now k d) (c.requires k d within)
    (so_far.each k d within)

pub write_rests-requires : goal.write_rests-requires
write_rests-requires g c = λ k d below.
    let W = g.W.Write in
    let old = c.args.writings.now in
    let now = c.loop-turn.writings in
    let so_far = c.loop-turn.invariant in
    let within : k < length old = omega (arith, below, so_far.count) in
    can-go W.taken W.failures W.label (slice_index_or old k d) (slice_index_or now k d) (c.requires k d within)
    (so_far.each k d within)

pub returns-clause-count : goal.returns-clause-count
returns-clause-count g c = c.write_rests.ensures.count ∙ c.loop-turn.invariant.count
