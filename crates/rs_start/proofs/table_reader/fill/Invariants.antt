use Rattle.std.proofs.Common.{◌≤◌, ◌-◌, ◌<◌, ◌≡◌, length, take}
use Rattle.rs_start.specs.TableReading.{Came}
use Rattle.rs_start.proofs.table_reader.fill.Given as goal

-- what came stands at the front of the piece, and a call that fails can be counted
abbrev pub invariant-loop-came : goal.invariant-loop-came
invariant-loop-came g l = record {
  fits : l.came ≤ l.len;
  same : length l.into ≡ length l.fn.into;
  counts : g.R.Read.failures l.reader < 18446744073709551615;
  came : Came (g.R.Read.gives l.fn.reader) (g.R.Read.gives l.reader) (take l.came l.into);
}

abbrev pub decreases-loop-came : goal.decreases-loop-came
decreases-loop-came g l = l.len - l.came
