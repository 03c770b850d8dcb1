use Rattle.std.proofs.Common.{◌≡◌, ◌≤◌, ◌++◌, ◌-◌, length, map, vec_capacity}
use Rattle.rs_table.specs.RouteView.{row_of}
use Rattle.rs_dump.specs.declared.table_dump.TheConstants.{TURN_LEN}
use Rattle.rs_dump.proofs.table_dump.take_rows.Given as goal

-- the rows that were taken and those to come are all
abbrev pub invariant-loop-rows : goal.invariant-loop-rows
invariant-loop-rows l = record {
  taken : l.fn.rows ≡ map row_of l.turn.items ++ l.rows;
  most : length l.turn.items ≤ TURN_LEN;
  capacity : TURN_LEN ≤ vec_capacity l.turn;
}

abbrev pub decreases-loop-rows : goal.decreases-loop-rows
decreases-loop-rows l = TURN_LEN - length l.turn.items
