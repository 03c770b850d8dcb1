-- The answer is one search, so that a wrong body is refused soon.
use Rattle.std.proofs.Common.{rules}
use Rattle.rs_program.proofs.amount.AmountDisplay.fmt.Goals as goal

pub returns-in-Some-clause-writes : goal.returns-in-Some-clause-writes
returns-in-Some-clause-writes g c = search rules
