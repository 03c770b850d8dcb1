use Rattle.std.proofs.Common.{◌≤◌, length, ap, arith}
use Rattle.rs_start.proofs.ReadingLemmas.{fills_front}
use Rattle.rs_start.proofs.table_reader.fill_buffer.Goals as goal

pub returns-clause-fills : goal.returns-clause-fills
returns-clause-fills g c =
    let R = g.R.Read in
    let long : c.args.len ≤ length c.fill.new.into =
    omega (arith, c.fill.auto.into, ap length c.deref_mut.ensures.value, c.requires.room) in
    fills_front (R.gives c.args.reader.now) (R.gives c.fill.new.reader) c.fill.new.into _ c.args.buffer.now.len c.args.len
    c.in_ok-came.came (omega (arith, c.requires.room)) long c.in_ok-came.ensures.fills
