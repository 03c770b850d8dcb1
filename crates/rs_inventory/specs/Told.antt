-- The meaning of all records for one peer. Our choice: the order of peers.
use Rattle.std.specs.Prelude.{ℕ, Bool, if◌then◌else◌, List, Option, Some, None, filter_map}
use Rattle.std.specs.Ordering.{eq_by_cmp, nat_cmp, ordering_then}
use Rattle.std.specs.declared.cmp.Ordering.{Ordering}
use Rattle.rs_inventory.specs.Peer.{Told}
use Rattle.rs_inventory.specs.declared.finding.Finding.{Finding}
use Rattle.rs_inventory.specs.declared.finding.Note.{Note}
use Rattle.rs_types.specs.declared.peer_id.PeerId.{PeerId}

-- the order of peers: by address, then by AS number
abbrev pub peer_cmp : PeerId → PeerId → Ordering
peer_cmp one other = ordering_then (nat_cmp one.address other.address) (nat_cmp one.asn other.asn)

-- whether two peers are the same
abbrev pub same_peer : PeerId → PeerId → Bool
same_peer = eq_by_cmp peer_cmp

-- the meaning of a record for a peer, if it has one
abbrev pub told_in : PeerId → ℕ → Option Note → Option Told
told_in peer time None = None
told_in peer time (Some note) = if same_peer note.peer peer then Some (time, note.news) else None

-- the meaning of all records for a peer
abbrev pub told_of : PeerId → List Finding → List Told
told_of peer findings = filter_map (λ f. told_in peer f.time f.note) findings
