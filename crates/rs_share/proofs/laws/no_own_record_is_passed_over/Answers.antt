use Rattle.rs_share.proofs.OwnLemmas.{none-passed}
use Rattle.rs_share.proofs.laws.no_own_record_is_passed_over.Goals as goal

pub returns : goal.returns
returns c = none-passed
