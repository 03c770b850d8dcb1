use Rattle.std.proofs.Common.{◌∙◌, sym}
use Rattle.rs_update.specs.Message.{message_of}
use Rattle.rs_update.proofs.message.MessageLemmas.{err_of-message, err_of-iff, ok_iff}
use Rattle.rs_update.proofs.laws.a_message_is_at_fault_by_its_first_fault.Goals as goal

pub returns-clause-fault : goal.returns-clause-fault
returns-clause-fault c octets fault =
    let both = err_of-iff (message_of octets) fault in
    (λ e. sym (err_of-message octets) ∙ both.0 e, λ e. both.1 (err_of-message octets ∙ e))

pub returns-clause-none : goal.returns-clause-none
returns-clause-none c octets =
    let both = ok_iff (message_of octets) in
    (λ e. sym (err_of-message octets) ∙ both.0 e, λ e. both.1 (err_of-message octets ∙ e))
