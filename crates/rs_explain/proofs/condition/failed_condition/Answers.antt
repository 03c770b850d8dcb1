-- Each answer is one search, so that a wrong body is refused soon.
use Rattle.std.proofs.Common.{rules}
use Rattle.rs_explain.proofs.condition.failed_condition.Goals as goal

pub returns-else-not-eligible : goal.returns-else-not-eligible
returns-else-not-eligible c = search rules

pub returns-then-holds_as : goal.returns-then-holds_as
returns-then-holds_as c = search rules

pub returns-then-next_hop-local : goal.returns-then-next_hop-local
returns-then-next_hop-local c = search rules

pub returns-then-not-eligible : goal.returns-then-not-eligible
returns-then-not-eligible c = search rules
