use Rattle.std.proofs.Common.{◌≡◌, ◌≤◌, ◌++◌, map, take, vec_capacity}
use Rattle.rs_table.specs.RouteView.{row_of}
use Rattle.rs_dump.specs.declared.under_way.TheConstants.{BUFFER_LEN}
use Rattle.rs_dump.specs.Dump.{spelled_rows}
use Rattle.rs_dump.specs.UnderWay.{IsUnderWay}
use Rattle.rs_dump.proofs.under_way.add_each.Given as goal

-- what is out and what waits in the buffer are what waited and the records of the rows so far
abbrev pub invariant-loop-place : goal.invariant-loop-place
invariant-loop-place g l =
    let W = g.W.Write in
    record {
      under_way : IsUnderWay (W.taken l.fn.out) (W.taken l.out) l.buffer.items
          (l.fn.buffer.items ++ spelled_rows l.time l.first (map row_of (take l.place l.rows)));
      failures : W.failures l.out ≡ W.failures l.fn.out;
      label : W.label l.out ≡ W.label l.fn.out;
      capacity : BUFFER_LEN ≤ vec_capacity l.buffer;
    }
