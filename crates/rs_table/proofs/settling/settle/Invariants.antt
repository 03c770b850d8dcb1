use Rattle.std.proofs.Common.{length}
use Rattle.rs_table.specs.Cells.{AreKeptCells}
use Rattle.rs_table.proofs.settling.SettlingLemmas.{IsReplayed}
use Rattle.rs_table.proofs.settling.settle.Given as goal

abbrev pub invariant-loop-log : goal.invariant-loop-log
invariant-loop-log l = record {
  cells : AreKeptCells l.fn.keeps_room l.plan l.cells.entries;
  replayed : IsReplayed l.fn.losses l.fn.logs.items (length l.yielded) l.cells.entries;
}
