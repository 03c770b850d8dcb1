use Rattle.rs_start.proofs.SaidLemmas.{opening_announces}
use Rattle.rs_start.proofs.laws.a_session_begins_with_the_routes_of_the_table.Goals as goal

pub returns : goal.returns
returns c = opening_announces c.by_rfc_4271_a_message_says_what_it_says.ensures c.without_a_fault_both_standards_agree.ensures
