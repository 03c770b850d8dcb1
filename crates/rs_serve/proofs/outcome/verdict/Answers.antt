-- The least places are those of the lists.
use Rattle.rs_serve.proofs.outcome.verdict.Goals as goal

pub returns : goal.returns
returns c =
    c.verdict_by.ensures c.args.failed.now c.args.settled.now c.first_that_is.ensures c.first_that_is_not.ensures
