-- The answer is one search, so that a wrong body is refused soon.
use Rattle.std.proofs.Common.{rules}
use Rattle.rs_program.proofs.texts.run_line.Goals as goal

pub returns-in-Unsettled : goal.returns-in-Unsettled
returns-in-Unsettled c = search rules
