-- Each answer is one search, so that a wrong body is refused soon.
use Rattle.std.proofs.Common.{rules}
use Rattle.rs_table.proofs.tables.Tables.why.Goals as goal

pub returns-else-gets_from : goal.returns-else-gets_from
returns-else-gets_from c = search rules

pub returns-in_default : goal.returns-in_default
returns-in_default c = search rules

pub returns-then-client-peer : goal.returns-then-client-peer
returns-then-client-peer c = search rules

pub returns-then-gets_from : goal.returns-then-gets_from
returns-then-gets_from c = search rules

pub returns-then-not-eligible : goal.returns-then-not-eligible
returns-then-not-eligible c = search rules

pub returns-then-not-permits : goal.returns-then-not-permits
returns-then-not-permits c = search rules
