use Rattle.rs_router.specs.Delivery.{sent_lists, SameSenders}
use Rattle.rs_router.specs.Routing.{IsRouted, received_lists, SameReceivers}
use Rattle.rs_router.proofs.router.route_until_closed.Given as goal

abbrev pub invariant-loop : goal.invariant-loop
invariant-loop g l = record {
  routed : IsRouted (received_lists l.from) (sent_lists l.to);
  receivers : SameReceivers l.fn.from l.from;
  senders : SameSenders l.fn.to l.to;
}
