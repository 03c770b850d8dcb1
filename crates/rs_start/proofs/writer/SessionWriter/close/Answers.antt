use Rattle.std.proofs.Common.{[]}
use Rattle.rs_start.proofs.WritingLemmas.{closes-goes, flushes-goes, goes-then}
use Rattle.rs_start.proofs.writer.SessionWriter.close.Goals as goal

pub returns-in_ok-flush-clause-goes : goal.returns-in_ok-flush-clause-goes
returns-in_ok-flush-clause-goes g c =
    let taken = g.W.Write.taken in
    goes-then taken c.args.self.now c.end_update.new.self c.flush.new.self [] []
    (closes-goes taken c.args.self.now c.end_update.new.self c.in_ok-end_update.ensures.closes)
    (flushes-goes taken c.end_update.new.self c.flush.new.self c.in_ok-flush.ensures.flushed)

pub returns-else-len-ge-PIECE_LEN-clause-goes : goal.returns-else-len-ge-PIECE_LEN-clause-goes
returns-else-len-ge-PIECE_LEN-clause-goes g c =
    closes-goes g.W.Write.taken c.args.self.now c.end_update.new.self c.in_ok-end_update.ensures.closes
