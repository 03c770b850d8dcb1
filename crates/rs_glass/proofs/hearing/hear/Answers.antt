-- The answer is one search, so that a wrong body is refused soon.
use Rattle.std.proofs.Common.{rules}
use Rattle.rs_glass.proofs.hearing.hear.Goals as goal

pub returns-clause-says : goal.returns-clause-says
returns-clause-says g c = search rules
