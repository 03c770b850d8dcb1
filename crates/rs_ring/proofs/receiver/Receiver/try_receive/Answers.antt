-- Each answer is one call of a tactic, so that a wrong body is refused soon.
use Rattle.std.proofs.Common.{arith, rules}
use Rattle.std.proofs.lemmas.Grind.{common_steps}
use Rattle.rs_ring.proofs.receiver.Receiver.try_receive.Goals as goal

pub invariant_of-self : goal.invariant_of-self
invariant_of-self g c = search rules

pub invariant_of-self-2 : goal.invariant_of-self-2
invariant_of-self-2 g c = grind (arith, common_steps)

pub returns-clause-below : goal.returns-clause-below
returns-clause-below g c = search rules

pub returns-clause-none : goal.returns-clause-none
returns-clause-none g c = search rules

pub returns-clause-number : goal.returns-clause-number
returns-clause-number g c = search rules

pub returns-clause-open : goal.returns-clause-open
returns-clause-open g c = search rules

pub returns-clause-received : goal.returns-clause-received
returns-clause-received g c = search rules

pub returns-clause-same : goal.returns-clause-same
returns-clause-same g c = search rules

pub returns-clause-succeeds : goal.returns-clause-succeeds
returns-clause-succeeds g c = search rules

pub returns-clause-waiting : goal.returns-clause-waiting
returns-clause-waiting g c = search rules

pub returns-in_err-item-clause-below : goal.returns-in_err-item-clause-below
returns-in_err-item-clause-below g c = search rules

pub returns-in_err-item-clause-none : goal.returns-in_err-item-clause-none
returns-in_err-item-clause-none g c = grind (arith, common_steps)

pub returns-in_err-item-clause-number : goal.returns-in_err-item-clause-number
returns-in_err-item-clause-number g c = search rules

pub returns-in_err-item-clause-open : goal.returns-in_err-item-clause-open
returns-in_err-item-clause-open g c = search rules

pub returns-in_err-item-clause-received : goal.returns-in_err-item-clause-received
returns-in_err-item-clause-received g c = search rules

pub returns-in_err-item-clause-same : goal.returns-in_err-item-clause-same
returns-in_err-item-clause-same g c = search rules

pub returns-in_err-item-clause-succeeds : goal.returns-in_err-item-clause-succeeds
returns-in_err-item-clause-succeeds g c = search rules

pub returns-in_err-item-clause-waiting : goal.returns-in_err-item-clause-waiting
returns-in_err-item-clause-waiting g c = search rules
