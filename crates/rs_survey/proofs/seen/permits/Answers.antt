use Rattle.std.proofs.Common.{◌∙◌, sym}
use Rattle.rs_choice.proofs.PermitLemmas.{is_permitted-without_0}
use Rattle.rs_survey.proofs.seen.permits.Goals as goal

pub returns : goal.returns
returns c =
    let one = c.args.one.now in
    is_permitted-without_0 c.args.plan.now c.args.client one.route.peer one.route.attributes.now c.refuses.result
    c.requires.client_known c.requires.seen.known c.if-client-peer.false c.refuses.ensures
    (sym c.requires.seen.restricted ∙ c.if-one.false)
