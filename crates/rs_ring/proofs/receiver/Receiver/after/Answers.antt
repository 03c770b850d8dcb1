-- Each answer is one search, so that a wrong body is refused soon.
use Rattle.std.proofs.Common.{rules}
use Rattle.rs_ring.proofs.receiver.Receiver.after.Goals as goal

pub returns-clause-all : goal.returns-clause-all
returns-clause-all g c = search rules

pub invariant_of-self : goal.invariant_of-self
invariant_of-self g c = search rules

pub returns-clause-same : goal.returns-clause-same
returns-clause-same g c = search rules

pub returns-clause-token : goal.returns-clause-token
returns-clause-token g c = search rules

pub returns-clause-waiting : goal.returns-clause-waiting
returns-clause-waiting g c = search rules
