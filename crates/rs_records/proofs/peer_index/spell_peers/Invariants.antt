use Rattle.std.proofs.Common.{take}
use Rattle.std.specs.List.{flat_map}
use Rattle.rs_records.specs.Buffer.{Gains}
use Rattle.rs_records.specs.PeerIndex.{peer_entry}
use Rattle.rs_records.proofs.peer_index.spell_peers.Given as goal

-- the entries of the peers so far are appended
abbrev pub invariant-loop-number : goal.invariant-loop-number
invariant-loop-number l = Gains l.initial.buffer l.buffer (flat_map peer_entry (take l.number l.plan.peers))
