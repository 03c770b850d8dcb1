-- A peer, as the records of a collector identify it (RFC 6396, section 4.4).
use Rattle.std.specs.Prelude.{ℕ, Bool, ◌&&◌, ◌==◌}
use Rattle.rs_types.specs.declared.peer_id.PeerId.{PeerId}

-- a peer is identified by its AS number and its address
abbrev pub is_of : PeerId → ℕ → ℕ → Bool
is_of peer asn address = (peer.asn == asn) && (peer.address == address)
