-- Waiting changes nothing but what the sender knows of its room.
use Rattle.std.proofs.Common.{◌≡◌}
use Rattle.rs_patience.proofs.waiting.wait_for_room.Given as goal

abbrev pub invariant-loop : goal.invariant-loop
invariant-loop g l = l.sender ≡ record l.initial.sender { room = l.sender.room }
