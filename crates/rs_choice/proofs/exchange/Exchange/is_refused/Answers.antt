use Rattle.std.proofs.Common.{◌∙◌, ap, arith, length}
use Rattle.std.proofs.lemmas.List.{length-map}
use Rattle.rs_choice.specs.Refusal.{is_refused, refused_of}
use Rattle.rs_choice.proofs.plan.PolicyLemmas.{answer_of_refused}
use Rattle.rs_choice.proofs.exchange.Exchange.is_refused.Goals as goal

pub index-requires : goal.index-requires
index-requires c =
    let peers = c.args.self.now.peers in
    let agree = c.self.invariant.refused_agree ∙ ap (λ plan. refused_of plan.peers) c.self.view_is in
    omega (arith, ap length agree ∙ length-map peers (is_refused peers), c.requires)

pub returns : goal.returns
returns c =
    let agree = c.self.invariant.refused_agree ∙ ap (λ plan. refused_of plan.peers) c.self.view_is in
    answer_of_refused c.self.inside.refused.items c.args.self.now.peers c.args.peer c.index.result.now agree c.index.ensures
