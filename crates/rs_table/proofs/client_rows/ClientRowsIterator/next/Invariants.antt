use Rattle.std.proofs.Common.{◌≡◌, length}
use Rattle.rs_table.specs.ClientRowsView.{client_rows_view}
use Rattle.rs_table.proofs.client_rows.ClientRowsIterator.next.Given as goal

-- the cells that were passed had no row
abbrev pub invariant-loop-entry : goal.invariant-loop-entry
invariant-loop-entry l = client_rows_view l.self-inside ≡ client_rows_view l.initial.self-inside

abbrev pub decreases-loop-entry : goal.decreases-loop-entry
decreases-loop-entry l = length l.self-inside.cells
