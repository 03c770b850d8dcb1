use Rattle.std.proofs.Common.{◌≡◌, arith, false, rules}
use Rattle.rs_choice.specs.Plan.{peer_of}
use Rattle.rs_choice.proofs.plan.PolicyLemmas.{is_permitted-not-refused}
use Rattle.rs_choice.proofs.exchange.Exchange.permits.Goals as goal
use Rattle.rs_choice.proofs.exchange.Exchange.permits.Goals.{then-client-peer, else-client-peer}

pub returns-then-not-refuses : goal.returns-then-not-refuses
returns-then-not-refuses c =
    elim c.if-client-peer.branch [
      | then-client-peer w ↦
          let refuses_not : w.refuses.result ≡ false = grind (arith, w.value-is, c.if-not-refuses.true) in
          is_permitted-not-refused c.args.self.now c.args.client c.args.peer c.args.attributes.now (peer_of c.peer.result.now)
          w.refuses.result c.permits_by_communities.result c.peer.ensures c.requires.peer_known w.if-client-peer.true w.refuses.ensures
          refuses_not c.permits_by_communities.ensures
      | else-client-peer w ↦ absurd (grind (arith, w.value-is, c.if-not-refuses.true))
    ]

pub returns-else-not-refuses : goal.returns-else-not-refuses
returns-else-not-refuses c = search rules
