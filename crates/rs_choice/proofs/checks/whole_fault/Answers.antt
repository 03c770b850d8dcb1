-- Each answer is one call of a tactic, so that a wrong body is refused soon.
use Rattle.std.proofs.Common.{arith}
use Rattle.std.proofs.lemmas.Grind.{common_steps}
use Rattle.rs_choice.proofs.checks.whole_fault.Goals as goal

pub returns : goal.returns
returns c = grind (arith, common_steps)

pub returns-then-is_empty : goal.returns-then-is_empty
returns-then-is_empty c = grind (arith, common_steps)

pub returns-then-local-eq0 : goal.returns-then-local-eq0
returns-then-local-eq0 c = grind (arith, common_steps)

pub returns-then-peers-gt-MAX_PEERS : goal.returns-then-peers-gt-MAX_PEERS
returns-then-peers-gt-MAX_PEERS c = grind (arith, common_steps)
