-- Each answer is one call of a tactic, so that a wrong body is refused soon.
use Rattle.std.proofs.Common.{arith}
use Rattle.std.proofs.lemmas.Grind.{common_steps}
use Rattle.rs_records.proofs.rib.spell_entry.Goals as goal

pub returns : goal.returns
returns c = grind (arith, common_steps)
