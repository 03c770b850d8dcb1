-- The answer is one call of a tactic, so that a wrong body is refused soon.
use Rattle.std.proofs.Common.{arith}
use Rattle.std.proofs.lemmas.Grind.{common_steps}
use Rattle.rs_inventory.proofs.kind.session_fields.Goals as goal

pub returns-else-record-lt-MICROSECONDS_LEN : goal.returns-else-record-lt-MICROSECONDS_LEN
returns-else-record-lt-MICROSECONDS_LEN c = grind (arith, common_steps)
