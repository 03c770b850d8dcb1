use Rattle.std.specs.Prelude.{◌≡◌, ◌++◌, map}
use Rattle.rs_table.specs.RouteView.{row_of}
use Rattle.rs_table.proofs.tables.Tables.rows.Given as goal

-- the rows so far, with those to come, are all rows
abbrev pub invariant-loop-row : goal.invariant-loop-row
invariant-loop-row l = map row_of l.rows.items ++ l.row-iterator ≡ l.initial.row-iterator
