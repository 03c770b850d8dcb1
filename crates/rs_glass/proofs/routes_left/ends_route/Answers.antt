-- The answer is one search, so that a wrong body is refused soon.
use Rattle.std.proofs.Common.{rules}
use Rattle.rs_glass.proofs.routes_left.ends_route.Goals as goal

pub returns-in-Close : goal.returns-in-Close
returns-in-Close c = search rules
