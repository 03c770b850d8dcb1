use Rattle.rs_table.proofs.LeftLemmas.{left_more}
use Rattle.rs_table.proofs.laws.left_after_one_more.Goals as goal

pub returns : goal.returns
returns c = left_more
