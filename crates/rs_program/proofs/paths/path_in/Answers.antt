-- The answer is one search, so that a wrong body is refused soon.
use Rattle.std.proofs.Common.{rules}
use Rattle.rs_program.proofs.paths.path_in.Goals as goal

pub returns-else-ends_with : goal.returns-else-ends_with
returns-else-ends_with c = search rules
