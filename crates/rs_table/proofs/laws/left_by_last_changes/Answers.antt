use Rattle.rs_table.proofs.LeftLemmas.{left-from-leaves, leaves-from-left}
use Rattle.rs_table.proofs.laws.left_by_last_changes.Goals as goal

pub returns : goal.returns
returns c = λ changes prefix route. (left-from-leaves changes prefix route, leaves-from-left changes prefix route)
