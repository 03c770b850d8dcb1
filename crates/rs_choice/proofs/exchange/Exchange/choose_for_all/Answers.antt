use Rattle.std.proofs.Common.{rules}
use Rattle.rs_choice.proofs.clients.ClientLemmas.{fit_hold}
use Rattle.rs_choice.proofs.exchange.Exchange.choose_for_all.Goals as goal

pub choose_for-requires-clause-candidates : goal.choose_for-requires-clause-candidates
choose_for-requires-clause-candidates c =
    fit_hold c.args.self.now c.args.held.now c.fit-fit.result c.requires.judged c.fit-fit.ensures.places
    c.fit-fit.ensures.fit c.loop-client.client

pub loop-client-preserved : goal.loop-client-preserved
loop-client-preserved c = search rules

pub returns-clause-count : goal.returns-clause-count
returns-clause-count c = search

pub returns-clause-best : goal.returns-clause-best
returns-clause-best c = search rules

pub loop-client-init : goal.loop-client-init
loop-client-init c = search rules

pub loop-client-smaller : goal.loop-client-smaller
loop-client-smaller c = search rules
