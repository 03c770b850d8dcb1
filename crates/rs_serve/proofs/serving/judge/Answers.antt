-- The verdict is that on what is known of all ends.
use Rattle.std.proofs.Common.{map}
use Rattle.rs_session.specs.Change.{is_read}
use Rattle.rs_serve.proofs.serving.SettleLemmas.{first-read, first-unsettled}
use Rattle.rs_serve.proofs.serving.judge.Goals as goal

pub returns : goal.returns
returns c =
    rw c.is_refused_memory.ensures at (c.verdict_by.ensures (map (λ end. is_read end.reason) c.args.ends.now)
    (map (λ end. end.settled) c.args.ends.now)
    (first-read c.args.ends.now c.first_failed.result c.first_failed.ensures)
    (first-unsettled c.args.ends.now c.first_unsettled.result c.first_unsettled.ensures))
