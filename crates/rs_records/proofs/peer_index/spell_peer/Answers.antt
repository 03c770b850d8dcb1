-- Each answer is one call of a tactic, so that a wrong body is refused soon.
use Rattle.std.proofs.Common.{arith}
use Rattle.std.proofs.lemmas.Grind.{common_steps}
use Rattle.rs_records.proofs.peer_index.spell_peer.Goals as goal

pub returns : goal.returns
returns c = grind (arith, common_steps)
