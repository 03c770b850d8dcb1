use Rattle.std.proofs.Common.{◌≡◌, length}
use Rattle.rs_start.specs.Table.{Leads, peer_at}
use Rattle.rs_start.proofs.index.read_peers.Given as goal

-- the peer entries so far stand in front of the rest
abbrev pub invariant-loop-place : goal.invariant-loop-place
invariant-loop-place l = (length l.peers.items ≡ l._place) × Leads peer_at l.octets l.peers.items l.rest
