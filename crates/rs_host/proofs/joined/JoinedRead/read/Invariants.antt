use Rattle.std.proofs.Common.{◌≤◌, length}
use Rattle.rs_host.proofs.joined.JoinedRead.read.Given as goal

-- no more octets were read than there is room for
abbrev pub invariant-loop-place : goal.invariant-loop-place
invariant-loop-place g l = l.count ≤ length l.buf
