use Rattle.std.proofs.Common.{◌≡◌, ◌≢◌, ℕ, false}
use Rattle.std.specs.Prelude.{map}
use Rattle.rs_session.specs.Change.{change_of}
use Rattle.rs_table.specs.Content.{rib_of}
use Rattle.rs_table.specs.Left.{HasNoClose, left}
use Rattle.rs_glass.proofs.routes_left.RoutesLeft.put_into.Given as goal

abbrev pub invariant-loop-word : goal.invariant-loop-word
invariant-loop-word l = record {
  routes : (rib_of l.tables l.peer).routes ≡ left (map change_of l.yielded);
  closed : (rib_of l.tables l.peer).closed ≡ false;
  none : HasNoClose (map change_of l.yielded);
  others : (other : ℕ) → other ≢ l.peer → rib_of l.tables other ≡ rib_of l.fn.tables other;
  plan : l.tables.plan ≡ l.fn.tables.plan;
}
