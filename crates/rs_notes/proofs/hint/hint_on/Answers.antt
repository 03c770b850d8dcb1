-- The answer is one call of a tactic, so that a wrong body is refused soon.
use Rattle.std.proofs.Common.{rules}
use Rattle.rs_notes.proofs.hint.hint_on.Goals as goal

pub returns-then-records_of-gt0 : goal.returns-then-records_of-gt0
returns-then-records_of-gt0 c = search rules
