use Rattle.std.proofs.Common.{◌∙◌, sym, ap, Ok}
use Rattle.std.proofs.lemmas.List.{take_rest}
use Rattle.rs_update.specs.declared.header.MessageType.TheVariants.{Update}
use Rattle.rs_update.proofs.message.ConcernLemmas.{header_concern, other_concern}
use Rattle.rs_update.proofs.treating.TreatingLemmas.{message_by-typed}
use Rattle.rs_update.proofs.concerns.concerns_prefix.Goals as goal

pub returns-in_default : goal.returns-in_default
returns-in_default c =
    sym (header_concern c.args.errors c.args.prefix c.args.octets.now c.in_default.field-0 (sym c.in_default.ensures.answer))

pub returns-in-Update : goal.returns-in-Update
returns-in-Update c =
    let header = sym c.in-Ok.ensures.answer ∙ ap (λ kind. Ok kind) c.in-Update.is in
    rw (message_by-typed c.args.errors c.args.octets.now Update header) (rw (take_rest c.args.octets.now 19) at c.update_concerns.ensures)

pub returns-in_default-kind : goal.returns-in_default-kind
returns-in_default-kind c =
    sym (other_concern c.args.errors c.args.prefix c.args.octets.now c.in-Ok.kind (sym c.in-Ok.ensures.answer) c.in_default-kind.not-Update)
