use Rattle.std.proofs.Common.{◌∙◌, subst, Ok, Err}
use Rattle.rs_update.specs.Message.{Answers, content_of, message_of}
use Rattle.rs_update.specs.declared.fault.MessageFault.TheVariants.{Bgp}
use Rattle.rs_start.proofs.AddLemmas.{answer_tells}
use Rattle.rs_start.proofs.held.attributes_in.Goals as goal

pub returns-in-Ok : goal.returns-in-Ok
returns-in-Ok c =
    c.attributes_told.ensures
    ∙ answer_tells c.args.section.now c.args.prefix c.deref.result.now (Ok (content_of c.in-Ok.message)) c.requires.fits
    c.requires.is_prefix
    (c.deref.ensures.value ∙ c.in_ok-message.ensures) c.in-Ok.ensures.answer

pub returns : goal.returns
returns c =
    answer_tells c.args.section.now c.args.prefix c.deref.result.now (Err (Bgp c.in-Err-Bgp.field-0-0 c.in-Err-Bgp.field-0-1))
    c.requires.fits
    c.requires.is_prefix (c.deref.ensures.value ∙ c.in_ok-message.ensures)
    (subst (λ fault. Answers (Err fault) (message_of c.deref.result.now)) c.in-Err-Bgp.field-0-is c.in-Err-Bgp.ensures.answer)
