-- The answer is one search, so that a wrong body is refused soon.
use Rattle.std.proofs.Common.{rules}
use Rattle.rs_program.proofs.counted.CountedRead.read.Goals as goal

pub returns-clause-bytes : goal.returns-clause-bytes
returns-clause-bytes g c = search rules
