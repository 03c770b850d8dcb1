use Rattle.std.proofs.Common.{◌≡◌, ◌≤◌, ◌-◌, length, vec_capacity}
use Rattle.rs_outlet.specs.Started.{Names}
use Rattle.rs_keep.specs.StartedDumps.{AreOutFrom}
use Rattle.rs_keep.specs.Written.{AreBegun}
use Rattle.rs_keep.proofs.dumps.begin_behind.Given as goal

-- the dumps so far are begun
abbrev pub invariant-loop-some : goal.invariant-loop-some
invariant-loop-some g l =
    let O = g.O.Outlet in
    record {
      begun : AreBegun g.O.Out.Write.taken g.O.Out.Write.failures (O.kept l.fn.outlet)
          l.dumping.tables.now l.dumping.time l.client l.some.items;
      some : 1 ≤ length l.some.items;
      most : length l.some.items ≤ l.most;
      capacity : l.most ≤ vec_capacity l.some;
      started : (before : Names) → AreOutFrom g.O.Out.Write.label l.dumping.files.now l.client before (O.started l.fn.outlet)
          l.fn.some.items
          → AreOutFrom g.O.Out.Write.label l.dumping.files.now l.client before (O.started l.outlet) l.some.items;
      kept : O.kept l.outlet ≡ O.kept l.fn.outlet;
      failures : O.failures l.outlet ≡ O.failures l.fn.outlet;
    }

abbrev pub decreases-loop-some : goal.decreases-loop-some
decreases-loop-some g l = l.most - length l.some.items
