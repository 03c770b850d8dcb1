-- Waiting receives nothing.
use Rattle.std.proofs.Common.{◌≡◌}
use Rattle.rtrb.specs.Ring.{received}
use Rattle.rs_share.proofs.taken.next_part.Given as goal

abbrev pub invariant-loop : goal.invariant-loop
invariant-loop g l = received l.parts ≡ received l.initial.parts
