-- Each answer is one search, so that a wrong body is refused soon.
use Rattle.std.proofs.Common.{rules}
use Rattle.rs_choice.proofs.PermitLemmas.{open-without_0}
use Rattle.rs_choice.proofs.exchange.Exchange.is_open.Goals as goal

pub returns-then-not-is_refused : goal.returns-then-not-is_refused
returns-then-not-is_refused c =
    search (open-without_0 c.args.self.now c.args.peer c.args.attributes.now, rules)

pub returns-then-not-permits_other : goal.returns-then-not-permits_other
returns-then-not-permits_other c = search rules

pub loop-client-preserved : goal.loop-client-preserved
loop-client-preserved c = search rules

pub returns : goal.returns
returns c = search rules

pub loop-client-init : goal.loop-client-init
loop-client-init c = search rules

pub loop-client-smaller : goal.loop-client-smaller
loop-client-smaller c = search rules
