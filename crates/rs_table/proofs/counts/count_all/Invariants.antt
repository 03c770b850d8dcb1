use Rattle.rs_table.specs.Counts.{AreCounts}
use Rattle.rs_table.proofs.counts.count_all.Given as goal

-- the routes of the first peers are counted
abbrev pub invariant-loop-peer : goal.invariant-loop-peer
invariant-loop-peer l = AreCounts l.fn.cells.entries l.peer l.counts.items
