use Rattle.std.proofs.Common.{◌≡◌, true}
use Rattle.std.specs.Prelude.{IfSome}
use Rattle.rs_ring.specs.Items.{has_close}
use Rattle.rs_router.specs.RoutedItems.{is_last}
use Rattle.rs_router.specs.Routing.{EndsLast}
use Rattle.rs_serve.specs.Held.{HoldReceived}
use Rattle.rs_serve.proofs.shard.shard_worker.Given as goal

abbrev pub invariant-loop : goal.invariant-loop
invariant-loop g l = record {
  next : (goal.iterator-loop g).can_next l.iterator';
  finite : (goal.iterator-loop g).is_finite l.iterator';
  ring : l.from.ring ≡ l.fn.from.ring;
  gathered : IfSome l.gathered (HoldReceived l.fn.tables l.from.received);
  ended : has_close is_last l.from.received ≡ true → EndsLast l.from.received;
}
