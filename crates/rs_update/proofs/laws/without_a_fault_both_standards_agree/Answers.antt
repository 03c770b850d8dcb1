use Rattle.rs_update.proofs.treating.AgreeLemmas.{both_agree}
use Rattle.rs_update.proofs.laws.without_a_fault_both_standards_agree.Goals as goal

pub returns : goal.returns
returns c = both_agree
