use Rattle.std.proofs.Common.{◌∙◌, sym, ap, arith, map}
use Rattle.std.proofs.lemmas.List.{take_all}
use Rattle.rs_choice.specs.Checks.{refuses_spec}
use Rattle.rs_choice.proofs.plan.PolicyLemmas.{refusals_of-map}
use Rattle.rs_choice.proofs.exchange.refusals.Goals as goal

pub returns : goal.returns
returns c =
    let peers = c.args.peers.now in
    c.loop-client.invariant
    ∙ ap (map (λ client. map (refuses_spec client) peers))
    (take_all c.loop-client.client-index peers (omega (arith, c.loop-client-test.false)))
    ∙ sym (refusals_of-map peers)
