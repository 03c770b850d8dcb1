use Rattle.rs_mrt.proofs.record.SplitLemmas.{splits, splits_only}
use Rattle.rs_mrt.proofs.laws.file_splits_in_one_way.Goals as goal

pub returns-clause-found : goal.returns-clause-found
returns-clause-found c = splits

pub returns-clause-only : goal.returns-clause-only
returns-clause-only c = splits_only
