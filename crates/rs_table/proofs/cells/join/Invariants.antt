use Rattle.std.proofs.Common.{◌++◌}
use Rattle.rs_table.proofs.cells.JoinLemmas.{AreToCome}
use Rattle.rs_table.proofs.cells.join.Given as goal

-- what is left for the second pass, and what of the other map remains, is to come
abbrev pub invariant-loop-prefix : goal.invariant-loop-prefix
invariant-loop-prefix l = AreToCome (l.seconds.items ++ l.rest) l.cells.entries l.fn.cells.entries l.fn.others.entries
