-- Each answer is one search, so that a wrong body is refused soon.
use Rattle.std.proofs.Common.{rules}
use Rattle.rs_choice.proofs.exchange.Exchange.eligible.Goals as goal

pub returns-then-next_hop-local : goal.returns-then-next_hop-local
returns-then-next_hop-local c = search rules

pub returns-else-next_hop-local : goal.returns-else-next_hop-local
returns-else-next_hop-local c = search rules
