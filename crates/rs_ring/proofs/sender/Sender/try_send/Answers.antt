-- Each answer is one call of a tactic, so that a wrong body is refused soon.
use Rattle.std.proofs.Common.{arith, rules}
use Rattle.std.proofs.lemmas.Grind.{common_steps}
use Rattle.rs_ring.proofs.sender.Sender.try_send.Goals as goal

pub invariant_of-self : goal.invariant_of-self
invariant_of-self g c = search rules

pub invariant_of-self-2 : goal.invariant_of-self-2
invariant_of-self-2 g c = grind (arith, common_steps)

pub returns-clause-closed : goal.returns-clause-closed
returns-clause-closed g c = search rules

pub returns-clause-number : goal.returns-clause-number
returns-clause-number g c = search rules

pub returns-clause-refused : goal.returns-clause-refused
returns-clause-refused g c = search rules

pub returns-clause-room : goal.returns-clause-room
returns-clause-room g c = search rules

pub returns-clause-same : goal.returns-clause-same
returns-clause-same g c = search rules

pub returns-clause-sent : goal.returns-clause-sent
returns-clause-sent g c = search rules

pub returns-clause-succeeds : goal.returns-clause-succeeds
returns-clause-succeeds g c = search rules

pub returns-clause-unchanged : goal.returns-clause-unchanged
returns-clause-unchanged g c = search rules

pub returns-in-Err-Full-clause-closed : goal.returns-in-Err-Full-clause-closed
returns-in-Err-Full-clause-closed g c = search rules

pub returns-in-Err-Full-clause-number : goal.returns-in-Err-Full-clause-number
returns-in-Err-Full-clause-number g c = search rules

pub returns-in-Err-Full-clause-refused : goal.returns-in-Err-Full-clause-refused
returns-in-Err-Full-clause-refused g c = search rules

pub returns-in-Err-Full-clause-room : goal.returns-in-Err-Full-clause-room
returns-in-Err-Full-clause-room g c = search rules

pub returns-in-Err-Full-clause-same : goal.returns-in-Err-Full-clause-same
returns-in-Err-Full-clause-same g c = search rules

pub returns-in-Err-Full-clause-sent : goal.returns-in-Err-Full-clause-sent
returns-in-Err-Full-clause-sent g c = search rules

pub returns-in-Err-Full-clause-succeeds : goal.returns-in-Err-Full-clause-succeeds
returns-in-Err-Full-clause-succeeds g c = search rules

pub returns-in-Err-Full-clause-unchanged : goal.returns-in-Err-Full-clause-unchanged
returns-in-Err-Full-clause-unchanged g c = search rules

pub returns-then-self-clause-closed : goal.returns-then-self-clause-closed
returns-then-self-clause-closed g c = search rules

pub returns-then-self-clause-number : goal.returns-then-self-clause-number
returns-then-self-clause-number g c = search rules

pub returns-then-self-clause-refused : goal.returns-then-self-clause-refused
returns-then-self-clause-refused g c = search rules

pub returns-then-self-clause-room : goal.returns-then-self-clause-room
returns-then-self-clause-room g c = search rules

pub returns-then-self-clause-same : goal.returns-then-self-clause-same
returns-then-self-clause-same g c = search rules

pub returns-then-self-clause-sent : goal.returns-then-self-clause-sent
returns-then-self-clause-sent g c = search rules

pub returns-then-self-clause-succeeds : goal.returns-then-self-clause-succeeds
returns-then-self-clause-succeeds g c = search rules

pub returns-then-self-clause-unchanged : goal.returns-then-self-clause-unchanged
returns-then-self-clause-unchanged g c = search rules
