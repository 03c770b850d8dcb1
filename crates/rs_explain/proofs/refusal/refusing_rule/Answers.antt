use Rattle.std.proofs.Common.{◌∙◌}
use Rattle.rs_choice.specs.Plan.{peer_of}
use Rattle.rs_explain.proofs.ReasonLemmas.{refusal_of-known}
use Rattle.rs_explain.proofs.refusal.refusing_rule.Goals as goal

pub returns : goal.returns
returns c =
    c.ruling.ensures
    ∙ refusal_of-known c.args.plan.now c.args.client c.args.peer c.args.attributes.now (peer_of c.peer.result.now)
    c.refuses-by_name.result c.peer.ensures c.requires.peer_known c.refuses-by_name.ensures
