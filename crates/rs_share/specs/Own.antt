-- Whose a record is, and what one peer hears of a recording that several peers share (RFC 6396, sections 4.4.3 and
-- 4.4.4).
use Rattle.std.specs.Prelude.{Bool, true, false, List, [], map, filter, Result, Ok, Err, if◌then◌else◌}
use Rattle.rs_mrt.specs.Entry.{Meaning, Message, State, Other, entry_of}
use Rattle.rs_mrt.specs.Record.{MrtRecord}
use Rattle.rs_mrt.specs.declared.fault.MrtFault.{MrtFault}
use Rattle.rs_types.specs.Peer.{is_of}
use Rattle.rs_types.specs.declared.peer_id.PeerId.{PeerId}

-- an entry is for a peer if it has the peer's address and AS number, or if it is at fault, since that ends every session
abbrev pub is_entry_for : PeerId → Result Meaning MrtFault → Bool
is_entry_for peer (Ok (Message asn address octets)) = is_of peer asn address
is_entry_for peer (Ok (State asn address old new)) = is_of peer asn address
is_entry_for peer (Ok Other) = false
is_entry_for peer (Err fault) = true

-- a record is for a peer
abbrev pub is_for : PeerId → MrtRecord → Bool
is_for peer r = is_entry_for peer (entry_of r)

-- the records of a recording that are for a peer
abbrev pub own : PeerId → List MrtRecord → List MrtRecord
own peer records = filter (is_for peer) records

-- a record that says nothing to any peer: it has no octets, and a Type that is not read (our choice)
abbrev pub silence : MrtRecord
silence = record { time = 0; kind = 0; subtype = 0; body = [] }

-- the record as which a peer hears a record
abbrev pub heard_as : PeerId → MrtRecord → MrtRecord
heard_as peer r = if is_for peer r then r else silence

-- what a peer hears of a recording: its own records, and of the others just that they are there
abbrev pub heard : PeerId → List MrtRecord → List MrtRecord
heard peer records = map (heard_as peer) records
