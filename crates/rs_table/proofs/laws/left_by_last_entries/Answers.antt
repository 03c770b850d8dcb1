use Rattle.std.proofs.Common.{None}
use Rattle.rs_table.proofs.log.ListLemmas.{left-by-last, left-none}
use Rattle.rs_table.proofs.laws.left_by_last_entries.Goals as goal

pub returns : goal.returns
returns c = λ losses peer prefix. (
  λ earlier later entry here none. left-by-last losses peer prefix earlier later entry None here none,
  λ entries none. left-none losses peer prefix entries None none,
)
