use Rattle.rs_update.proofs.treating.TreatingLemmas.{by_rfc_4271, untreated_answered}
use Rattle.rs_update.proofs.message.read_message.Goals as goal

pub returns-clause-answer : goal.returns-clause-answer
returns-clause-answer c = rw by_rfc_4271 at c.read_message_by.ensures.answer

pub returns-clause-untreated : goal.returns-clause-untreated
returns-clause-untreated c =
    untreated_answered c.args.octets.now c.read_message_by.result (rw by_rfc_4271 at c.read_message_by.ensures.answer)
