use Rattle.std.proofs.Common.{sym, ap, ◌∙◌, Ok}
use Rattle.std.proofs.lemmas.List.{take_rest}
use Rattle.rs_update.specs.declared.header.MessageType.TheVariants.{Update}
use Rattle.rs_update.proofs.treating.TreatingLemmas.{message_by-typed, routes_answered}
use Rattle.rs_update.proofs.message.read_message_by.Goals as goal

pub returns-in-Update-clause-answer : goal.returns-in-Update-clause-answer
returns-in-Update-clause-answer c =
    let header = sym c.in_ok-kind.ensures.answer ∙ ap (λ kind. Ok kind) c.in-Update.is in
    rw (message_by-typed c.args.errors c.args.octets.now Update header) (rw (take_rest c.args.octets.now 19) at c.read_update_by.ensures)

pub returns-in-Update-clause-routes : goal.returns-in-Update-clause-routes
returns-in-Update-clause-routes c = routes_answered c.args.errors _ c.read_update_by.result c.read_update_by.ensures
