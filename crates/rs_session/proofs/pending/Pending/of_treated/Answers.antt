-- Each answer is one call of a tactic, so that a wrong body is refused soon.
use Rattle.std.proofs.Common.{arith}
use Rattle.std.proofs.lemmas.Grind.{common_steps}
use Rattle.rs_session.proofs.pending.Pending.of_treated.Goals as goal

pub returns-clause-changes : goal.returns-clause-changes
returns-clause-changes c = grind (arith, common_steps)
