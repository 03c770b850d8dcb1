use Rattle.std.proofs.Common.{◌≡◌}
use Rattle.floor_tests.proofs.tests.workers.receive_all.Given as goal

abbrev pub invariant-loop : goal.invariant-loop
invariant-loop g l = l.from.ring ≡ l.initial.from.ring
