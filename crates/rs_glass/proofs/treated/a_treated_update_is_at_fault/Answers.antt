-- The two laws about the standards give it.
use Rattle.rs_glass.proofs.TreatedLemmas.{treated-at-fault}
use Rattle.rs_glass.proofs.treated.a_treated_update_is_at_fault.Goals as goal

pub returns : goal.returns
returns c = treated-at-fault c.by_rfc_4271_a_message_says_what_it_says.ensures c.without_a_fault_both_standards_agree.ensures
