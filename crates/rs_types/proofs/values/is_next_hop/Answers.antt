-- Each answer is one search, so that a wrong body is refused soon.
use Rattle.std.proofs.Common.{rules}
use Rattle.rs_types.proofs.values.is_next_hop.Goals as goal

pub returns-then-first-ne0 : goal.returns-then-first-ne0
returns-then-first-ne0 c = search rules

pub returns-else-first-ne0 : goal.returns-else-first-ne0
returns-else-first-ne0 c = search rules

pub returns-in_default : goal.returns-in_default
returns-in_default c = search rules
