-- The answer is one search, so that a wrong body is refused soon.
use Rattle.std.proofs.Common.{rules}
use Rattle.rs_program.proofs.ended.status.Goals as goal

pub returns-in-Run-Dump : goal.returns-in-Run-Dump
returns-in-Run-Dump c = search rules
