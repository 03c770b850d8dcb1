use Rattle.std.proofs.Common.{◌≡◌, ◌+◌, length}
use Rattle.rs_dump.proofs.table_dump.count_rows.Given as goal

-- those that were counted and those to come are all
abbrev pub invariant-loop-row : goal.invariant-loop-row
invariant-loop-row l = l.count + length l._row-iterator ≡ length l.initial._row-iterator
