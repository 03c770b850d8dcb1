-- What is noted of a recorded file if a run kept nothing of it. Only the lengths are from a standard (RFC 6396,
-- sections 2 and 4.4.2): the rest is our choice.
use Rattle.std.specs.Prelude.{ℕ, ◌==◌, ◌+◌, ◌*◌, ◌&&◌, ◌||◌, nat_le, nat_lt, not, true, Bool, if◌then◌else◌, List}
use Rattle.std.specs.Prelude.{Option, Some, None, length, slice_index}
use Rattle.std.specs.Option.{option_map}
use Rattle.rs_notes.specs.Format.{format_of}
use Rattle.rs_notes.specs.declared.format.Format.TheVariants.{Compressed}
use Rattle.rs_notes.specs.declared.hint.Hint.{Hint}
use Rattle.rs_notes.specs.declared.hint.Hint.TheVariants.{NotMrt, NoRecord}
use Rattle.rs_inventory.specs.Inventory.{Content, peer_at}
use Rattle.rs_inventory.specs.Kind.{place_of}
use Rattle.rs_inventory.specs.Peer.{PeerContent, counted}
use Rattle.rs_inventory.specs.declared.compression.Compression.{Compression}
use Rattle.rs_inventory.specs.declared.kind.Kind.{Kind}
use Rattle.rs_inventory.specs.declared.kind.Kind.TheVariants as kinds
use Rattle.rs_types.specs.declared.peer_id.PeerId.{PeerId}

-- how many records of a kind there are
abbrev pub count_of : Content → Kind → ℕ
count_of held kind = slice_index held.kinds (place_of kind)

-- how many records of a peer are of kinds that a route server reads
abbrev pub records_in : Option PeerContent → ℕ
records_in None = 0
records_in (Some content) = counted (content.messages + content.state_changes)

abbrev pub records_of : Content → PeerId → ℕ
records_of held peer = records_in (peer_at held.peers peer)

-- the records have room for the fields of a session after their headers
abbrev pub have_bodies : ℕ → Option ℕ → Bool
have_bodies records None = true
have_bodies records (Some octets) = nat_le (counted (counted (records * 12) + 16)) octets

abbrev pub has_bodies : Content → Bool
has_bodies held = have_bodies held.records held.octets

-- some record is of a known kind
abbrev pub is_known : Content → Bool
is_known held =
    nat_lt 0 (length held.peers) || nat_lt 0 (count_of held kinds.TableDumpV2) || nat_lt 0 (count_of held kinds.AddPath)
    || nat_lt 0 (count_of held kinds.Ipv6) || (nat_lt 0 (count_of held kinds.TwoOctet) && has_bodies held)

abbrev pub is_all : Content → Kind → Bool
is_all held kind = count_of held kind == held.records

-- the kind of all records, if there is one kind and a route server reads none of it
abbrev pub only_kind : Content → Option Kind
only_kind held =
    if is_all held kinds.TableDumpV2 then Some kinds.TableDumpV2
    else if is_all held kinds.TwoOctet then Some kinds.TwoOctet
    else if is_all held kinds.AddPath then Some kinds.AddPath
    else if is_all held kinds.Ipv6 then Some kinds.Ipv6
    else None

-- the note on a file that isn't compressed
abbrev pub hint_of_records : Content → List ℕ → PeerId → Option Hint
hint_of_records held front peer =
    if nat_lt 0 (records_of held peer) then None
    else if not (is_known held) then option_map NotMrt (format_of front)
    else Some (NoRecord held.records (only_kind held))

abbrev pub hint_unless : Option Compression → Content → List ℕ → PeerId → Option Hint
hint_unless (Some compression) held front peer = Some (NotMrt (Compressed compression))
hint_unless None held front peer = hint_of_records held front peer

-- the note on a file that has this content and begins with these octets
abbrev pub hint_of : Content → List ℕ → PeerId → Option Hint
hint_of held front peer = hint_unless held.compression held front peer
