-- The part that is refused comes back, and nothing is sent.
use Rattle.std.proofs.Common.{◌≡◌}
use Rattle.rtrb.specs.Ring.{sent}
use Rattle.rs_share.proofs.line.send_part.Given as goal

abbrev pub invariant-loop : goal.invariant-loop
invariant-loop g l = (l.part ≡ l.initial.part) × (sent l.parts ≡ sent l.initial.parts)
