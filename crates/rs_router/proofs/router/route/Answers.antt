-- All sessions closed, and then all shards were sent the last item.
use Rattle.std.proofs.Common.{subst, arith, ℕ, length}
use Rattle.rs_router.specs.Delivery.{sent_lists}
use Rattle.rs_router.specs.Routing.{AreKnown, received_lists}
use Rattle.rs_router.proofs.RoutingLemmas.{are_closed, as_many_received, can_send, cuts_last, end_last, known_last, routed_first}
use Rattle.rs_router.proofs.router.route.Goals as goal

pub route_until_closed-requires-clause-routed : goal.route_until_closed-requires-clause-routed
route_until_closed-requires-clause-routed g c =
    routed_first c.args.from.now c.args.to.now c.requires.nothing_received c.requires.nothing_sent

pub send_to_all-requires : goal.send_to_all-requires
send_to_all-requires g c =
    can_send (received_lists c.route_until_closed.new.from) c.route_until_closed.new.to c.route_until_closed.ensures.routed
    (omega (arith, c.requires.peers, as_many_received c.args.from.now c.route_until_closed.new.from c.route_until_closed.ensures.receivers))

pub returns-clause-closed : goal.returns-clause-closed
returns-clause-closed g c =
    are_closed c.route_until_closed.new.from (sent_lists c.route_until_closed.new.to)
    c.route_until_closed.ensures.routed c.route_until_closed.ensures.closed

pub returns-clause-shard_parts : goal.returns-clause-shard_parts
returns-clause-shard_parts g c =
    cuts_last (received_lists c.route_until_closed.new.from) (sent_lists c.route_until_closed.new.to) (sent_lists c.send_to_all.new.to)
    c.route_until_closed.ensures.routed c.send_to_all.ensures.sent

pub returns-clause-known : goal.returns-clause-known
returns-clause-known g c =
    let known : AreKnown (length (received_lists c.route_until_closed.new.from)) (sent_lists c.send_to_all.new.to) =
    known_last (received_lists c.route_until_closed.new.from) (sent_lists c.route_until_closed.new.to) (sent_lists c.send_to_all.new.to)
    c.route_until_closed.ensures.routed c.send_to_all.ensures.sent in
    subst (λ (n : ℕ). AreKnown n (sent_lists c.send_to_all.new.to))
    (as_many_received c.args.from.now c.route_until_closed.new.from c.route_until_closed.ensures.receivers) known

pub returns-clause-last : goal.returns-clause-last
returns-clause-last g c =
    end_last (received_lists c.route_until_closed.new.from) (sent_lists c.route_until_closed.new.to) (sent_lists c.send_to_all.new.to)
    c.route_until_closed.ensures.routed c.send_to_all.ensures.sent
