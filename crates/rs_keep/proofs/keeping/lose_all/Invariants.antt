use Rattle.std.proofs.Common.{◌≡◌, ◌≤◌, List, ℕ}
use Rattle.std.specs.Vec.Iter.{into_iter_items}
use Rattle.rs_outlet.specs.Started.{Names}
use Rattle.rs_keep.specs.StartedDumps.{AreOut}
use Rattle.rs_keep.proofs.keeping.lose_all.Given as goal

-- the writers of the dumps that are left are out, those of the others are back, and the outlet has kept what it had
abbrev pub invariant-loop-writing : goal.invariant-loop-writing
invariant-loop-writing g l =
    let O = g.O.Outlet in
    let label = g.O.Out.Write.label in
    (goal.iterator-loop-writing g).can_next l.writing-iterator
    × (goal.iterator-loop-writing g).is_finite l.writing-iterator
    × record {
      out : (before : Names) (names : List (List ℕ)) → AreOut label before (O.started l.fn.outlet) (into_iter_items l.fn.written) names
          → (left : List (List ℕ)) × AreOut label before (O.started l.outlet) (into_iter_items l.writing-iterator) left;
      kept : O.kept l.outlet ≡ O.kept l.fn.outlet;
      failures : O.failures l.fn.outlet ≤ O.failures l.outlet;
    }
