use Rattle.std.proofs.Common.{◌∙◌, sym, ap, subst, rules}
use Rattle.std.specs.Option.{option_map}
use Rattle.std.specs.Prelude.{IsTrue}
use Rattle.rs_choice.specs.Clients.{is_sent_to, peer_or_own}
use Rattle.rs_choice.specs.Decision.{SentRoute}
use Rattle.rs_choice.proofs.exchange.Exchange.choose_for.Goals as goal

pub returns-then-are_permitted : goal.returns-then-are_permitted
returns-then-are_permitted c =
    let permitted = is_sent_to c.args.self.now c.args.client in
    let stays = c.requires.shared.rests permitted (λ route found.
    subst (λ (sent : SentRoute). IsTrue (permitted sent)) found.2 (c.are_permitted.ensures c.if-are_permitted.true found.0 route found.1))
    in
    c.number.ensures
    ∙ ap (λ peer. peer_or_own peer c.args.client) (c.requires.shared.peer ∙ sym (ap (option_map (λ (sent : SentRoute). sent.peer)) stays))

pub returns : goal.returns
returns c = search rules
