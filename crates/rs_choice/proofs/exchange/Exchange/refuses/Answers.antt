use Rattle.std.proofs.Common.{◌∙◌, ap, arith}
use Rattle.rs_choice.specs.Refusal.{refusals_of}
use Rattle.rs_choice.proofs.plan.PolicyLemmas.{length_of_row, answer_of_row}
use Rattle.rs_choice.proofs.exchange.Exchange.refuses.Goals as goal

pub index-requires-2 : goal.index-requires-2
index-requires-2 c =
    let agree = c.self.invariant.refusals_agree ∙ ap (λ plan. refusals_of plan.peers) c.self.view_is in
    omega (
      arith,
      length_of_row (λ row. row.items) c.self.inside.refusals.items c.args.self.now.peers c.args.client c.index.result.now agree
          c.requires.client_known c.index.ensures,
    )

pub returns : goal.returns
returns c =
    let agree = c.self.invariant.refusals_agree ∙ ap (λ plan. refusals_of plan.peers) c.self.view_is in
    answer_of_row (λ row. row.items) c.self.inside.refusals.items c.args.self.now.peers c.args.client c.args.peer c.index.result.now
    c.index-2.result.now agree c.index.ensures c.index-2.ensures
