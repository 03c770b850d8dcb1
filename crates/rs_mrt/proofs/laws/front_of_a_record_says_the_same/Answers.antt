use Rattle.rs_mrt.proofs.record.EntryLemmas.{front_says}
use Rattle.rs_mrt.proofs.laws.front_of_a_record_says_the_same.Goals as goal

pub returns-clause-same : goal.returns-clause-same
returns-clause-same c = front_says
