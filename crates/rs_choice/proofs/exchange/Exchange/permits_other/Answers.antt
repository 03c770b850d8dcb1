use Rattle.std.proofs.Common.{◌∙◌, sym, rules}
use Rattle.rs_choice.proofs.PermitLemmas.{is_permitted-without_0}
use Rattle.rs_choice.proofs.exchange.Exchange.permits_other.Goals as goal

-- no community refuses the route
pub returns-else-refuses : goal.returns-else-refuses
returns-else-refuses c =
    is_permitted-without_0 c.args.self.now c.args.client c.args.peer c.args.attributes.now c.refuses.result
    c.requires.client_known c.requires.peer_known c.requires.other c.refuses.ensures (sym c.requires.refuses ∙ c.if-refuses.false)

pub returns-then-refuses : goal.returns-then-refuses
returns-then-refuses c = search rules
