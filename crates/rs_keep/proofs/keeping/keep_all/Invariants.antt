use Rattle.std.proofs.Common.{◌≡◌, ◌≤◌, length, take, vec_capacity}
use Rattle.std.specs.Vec.Iter.{into_iter_items}
use Rattle.rs_outlet.specs.Outlet.{Grows}
use Rattle.rs_keep.specs.Kept.{dumps_of}
use Rattle.rs_keep.specs.StartedDumps.{AreOutFrom}
use Rattle.rs_keep.specs.TableLines.{row_counts}
use Rattle.rs_keep.specs.Written.{AreWritten}
use Rattle.rs_keep.proofs.keeping.keep_all.Given as goal

-- the dumps of the clients so far are kept and their rows are counted; those of some behind them are written, and their writers are out
abbrev pub invariant-loop-client : goal.invariant-loop-client
invariant-loop-client g l =
    let O = g.O.Outlet in
    let Out = g.O.Out.Write in
    record {
      kept : Grows (O.kept l.fn.outlet) (O.kept l.outlet) (take l.client (dumps_of l.dumping.tables.now l.dumping.time));
      failures : O.failures l.outlet ≡ O.failures l.fn.outlet;
      counts : l.rows.items ≡ take l.client (row_counts l.dumping.tables.now);
      count : length l.rows.items ≡ l.client;
      room : length l.dumping.tables.now.plan.peers ≤ vec_capacity l.rows;
      written : AreWritten Out.taken Out.failures (O.kept l.fn.outlet) l.dumping.tables.now l.dumping.time l.client
          (into_iter_items l.written);
      started : AreOutFrom Out.label l.dumping.files.now l.client (O.started l.fn.outlet) (O.started l.outlet) (into_iter_items l.written);
    }
