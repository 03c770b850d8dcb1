-- Each answer is one search, so that a wrong body is refused soon.
use Rattle.std.proofs.Common.{rules}
use Rattle.rs_table.proofs.cells.change.Goals as goal

pub returns-else-ne-clause-routes : goal.returns-else-ne-clause-routes
returns-else-ne-clause-routes g c = search rules

pub returns-in-Down-clause-routes : goal.returns-in-Down-clause-routes
returns-in-Down-clause-routes g c = search rules

pub returns-in-Withdraw-clause-routes : goal.returns-in-Withdraw-clause-routes
returns-in-Withdraw-clause-routes g c = search rules

pub returns-then-ne-clause-routes : goal.returns-then-ne-clause-routes
returns-then-ne-clause-routes g c = search rules
