-- The change that is given was the first of those left.
use Rattle.rs_mrt.specs.Record.{record_of}
use Rattle.rs_session.specs.Change.{change_of}
use Rattle.rs_glass.proofs.HappenedLemmas.{taken-one}
use Rattle.rs_glass.proofs.listing.Listing.take_changes.Goals as goal

pub loop-left-preserved : goal.loop-left-preserved
loop-left-preserved c =
    let first = rw c.in-Some.is at c.in_ok-word.ensures.ok in
    taken-one (record_of c.args.recorded.now) c.args.changes c.loop-left.left c.next.new.self (change_of c.in-Some.word) c.args.self.now
    c.loop-left.self c.take.new.self c.loop-left.invariant first c.in_ok-take.ensures
