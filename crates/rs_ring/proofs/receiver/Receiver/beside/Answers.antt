-- Each answer is one call of a tactic, so that a wrong body is refused soon.
use Rattle.std.proofs.Common.{arith, rules}
use Rattle.std.proofs.lemmas.Grind.{common_steps}
use Rattle.rs_ring.proofs.receiver.Receiver.beside.Goals as goal

pub returns-clause-all : goal.returns-clause-all
returns-clause-all g c = search

pub invariant_of-self : goal.invariant_of-self
invariant_of-self g c = search rules

pub invariant_of-sender : goal.invariant_of-sender
invariant_of-sender g c = search rules

pub returns-clause-room : goal.returns-clause-room
returns-clause-room g c = grind (arith, common_steps)

pub returns-clause-same : goal.returns-clause-same
returns-clause-same g c = search rules

pub returns-clause-sender : goal.returns-clause-sender
returns-clause-sender g c = search rules

pub returns-clause-waiting : goal.returns-clause-waiting
returns-clause-waiting g c = search rules
