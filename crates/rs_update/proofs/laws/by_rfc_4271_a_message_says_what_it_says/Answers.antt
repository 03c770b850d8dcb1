use Rattle.rs_update.proofs.treating.TreatingLemmas.{by_rfc_4271}
use Rattle.rs_update.proofs.laws.by_rfc_4271_a_message_says_what_it_says.Goals as goal

pub returns : goal.returns
returns c = by_rfc_4271
