-- Each answer is one call of a tactic, so that a wrong body is refused soon.
use Rattle.std.proofs.Common.{arith, rules}
use Rattle.std.proofs.lemmas.Grind.{common_steps}
use Rattle.rs_mrt.proofs.bgp4mp.read_state_fields.Goals as goal

pub returns : goal.returns
returns c = grind (arith, common_steps)

pub returns-then-fields-lt-STATES_END : goal.returns-then-fields-lt-STATES_END
returns-then-fields-lt-STATES_END c = search rules
