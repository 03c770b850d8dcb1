-- The answer is one call of a tactic, so that a wrong body is refused soon.
use Rattle.std.proofs.Common.{arith}
use Rattle.std.proofs.lemmas.Grind.{common_steps}
use Rattle.rs_glass.proofs.loss.loss_of.Goals as goal

pub returns-in-Some-len2-up : goal.returns-in-Some-len2-up
returns-in-Some-len2-up c = grind (arith, common_steps)
