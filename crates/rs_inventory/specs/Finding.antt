-- What one record adds to an inventory (RFC 6396, section 4.4; RFC 4271, section 4).
use Rattle.std.specs.Prelude.{ℕ, ◌+◌, ◌==◌, ◌&&◌, nat_le, nat_lt, not, Bool, if◌then◌else◌, List, length}
use Rattle.std.specs.Prelude.{drop, slice_get, Option, Some, None, Result, Ok, Err}
use Rattle.std.specs.Option.{option_and_then}
use Rattle.byteorder.specs.Endian.{big_number}
use Rattle.rs_mrt.specs.Entry.{Meaning, Message, State, Other, entry_of, established, message_place, front_len}
use Rattle.rs_mrt.specs.Entry.{family_ipv4}
use Rattle.rs_mrt.specs.Record.{MrtRecord, header_len}
use Rattle.rs_mrt.specs.declared.fault.MrtFault.{MrtFault}
use Rattle.rs_update.specs.Message.{MessageContent, IsOpen, IsUpdate, IsTreated, IsNotification, IsKeepAlive}
use Rattle.rs_update.specs.Message.{IsRefresh, message_of}
use Rattle.rs_update.specs.declared.fault.MessageFault.{MessageFault}
use Rattle.rs_inventory.specs.Kind.{fields_of, is_kind, unread_kind}
use Rattle.rs_inventory.specs.Opening.{hold_time_of, identifier_of, sender_as}
use Rattle.rs_inventory.specs.declared.depth.Depth.{Depth}
use Rattle.rs_inventory.specs.declared.depth.Depth.TheVariants as depths
use Rattle.rs_inventory.specs.declared.finding.Finding.{Finding}
use Rattle.rs_inventory.specs.declared.finding.News.{News}
use Rattle.rs_inventory.specs.declared.finding.News.TheVariants as news
use Rattle.rs_inventory.specs.declared.finding.Note.{Note}
use Rattle.rs_inventory.specs.declared.kind.Kind.{Kind}
use Rattle.rs_inventory.specs.declared.kind.Kind.TheVariants as kinds
use Rattle.rs_types.specs.declared.peer_id.PeerId.{PeerId}

-- ---- a message

-- the kind of a message, and its meaning for its sender: the number of prefixes of an UPDATE, the BGP Identifier of
-- an OPEN
abbrev pub kind_of_message : Result MessageContent MessageFault → Kind
kind_of_message (Ok IsOpen) = kinds.Open
kind_of_message (Ok (IsUpdate update)) = kinds.Update
kind_of_message (Ok (IsTreated treated)) = kinds.Faulty
kind_of_message (Ok IsNotification) = kinds.Notification
kind_of_message (Ok IsKeepAlive) = kinds.KeepAlive
kind_of_message (Ok IsRefresh) = kinds.RouteRefresh
kind_of_message (Err fault) = kinds.Faulty

abbrev pub news_of_message : List ℕ → Result MessageContent MessageFault → News
news_of_message octets (Ok IsOpen) = news.Open (identifier_of octets)
news_of_message octets (Ok (IsUpdate update)) = news.Update (length update.nlri) (length update.withdrawn)
news_of_message octets (Ok (IsTreated treated)) = news.Faulty
news_of_message octets (Ok IsNotification) = news.Notification
news_of_message octets (Ok IsKeepAlive) = news.Message
news_of_message octets (Ok IsRefresh) = news.Message
news_of_message octets (Err fault) = news.Faulty

-- the type of a message stands behind its Marker and Length (RFC 4271, section 4.1)
abbrev pub type_in : List ℕ → Option ℕ
type_in octets = slice_get octets 18

-- the kind of a message by its type alone: OPEN 1, UPDATE 2, NOTIFICATION 3, KEEPALIVE 4 (RFC 4271, section 4.1),
-- ROUTE-REFRESH 5 (RFC 2918, section 3)
abbrev pub kind_of_type : Option ℕ → Kind
kind_of_type None = kinds.Faulty
kind_of_type (Some n) =
    if n == 1 then kinds.Open
    else if n == 2 then kinds.Update
    else if n == 3 then kinds.Notification
    else if n == 4 then kinds.KeepAlive
    else if n == 5 then kinds.RouteRefresh
    else kinds.Faulty

-- the meaning of a message by its type alone; no prefixes of an UPDATE are counted
abbrev pub news_of_kind : List ℕ → Kind → News
news_of_kind octets kinds.Open = news.Open (identifier_of octets)
news_of_kind octets kinds.Update = news.Update 0 0
news_of_kind octets kinds.Notification = news.Notification
news_of_kind octets kinds.KeepAlive = news.Message
news_of_kind octets kinds.RouteRefresh = news.Message
news_of_kind octets _ = news.Faulty

-- the kind of a message, by whether messages are read whole or only their types
abbrev pub kind_at : Depth → List ℕ → Kind
kind_at depths.Whole octets = kind_of_message (message_of octets)
kind_at depths.Outline octets = kind_of_type (type_in octets)

abbrev pub news_at : Depth → List ℕ → News
news_at depths.Whole octets = news_of_message octets (message_of octets)
news_at depths.Outline octets = news_of_kind octets (kind_of_type (type_in octets))

-- the Hold Time of a message, 0 if it is no OPEN by its type (RFC 4271, section 4.2)
abbrev pub hold_of : List ℕ → ℕ
hold_of octets = if is_kind kinds.Open (kind_of_type (type_in octets)) then hold_time_of octets else 0

-- ---- a change of state

-- a session comes up with a change to Established, and goes down with a change from Established (RFC 6396, section
-- 4.4.1)
abbrev pub news_of_states : ℕ → ℕ → News
news_of_states old new =
    if (new == established) && not (old == established) then news.Up
    else if (old == established) && not (new == established) then news.Down
    else news.State

-- ---- a record

-- news of a peer
abbrev pub note_of : ℕ → ℕ → News → Note
note_of address asn told = record { peer = record { address = address; asn = asn }; news = told }

-- how many octets a record has, if all of them are there; of longer records only a front is shown
abbrev pub known_octets : List ℕ → Option ℕ
known_octets body = if nat_lt (length body) front_len then Some (header_len + length body) else None

-- the recorder of a message with four-octet AS numbers: Local AS at 4, Local IP Address at 16 (RFC 6396, section 4.4.3)
abbrev pub recorder_in : Option (List ℕ) → Option PeerId
recorder_in None = None
recorder_in (Some fields) =
    if nat_lt (length fields) message_place then None
    else Some (record { address = big_number 4 (drop 16 fields); asn = big_number 4 (drop 4 fields) })

-- whether two peers are the same
abbrev pub is_peer : PeerId → PeerId → Bool
is_peer one other = (one.address == other.address) && (one.asn == other.asn)

-- the fields of BGP4MP_MESSAGE (RFC 6396, section 4.4.2): Peer AS of two octets at 0, Address Family at 6, Peer IP
-- Address at 8; for an IPv4 peer the message is at 16
abbrev pub is_ipv4_message : List ℕ → Bool
is_ipv4_message fields = nat_le 16 (length fields) && (big_number 2 (drop 6 fields) == family_ipv4)

-- the meaning of an OPEN in such a record
unfoldable pub opener_of : List ℕ → Note
opener_of fields =
    note_of (big_number 4 (drop 8 fields)) (sender_as (big_number 2 fields) (drop 16 fields))
    (news.TwoOctetOpen (identifier_of (drop 16 fields)))

-- the meaning of such fields, if their message is an OPEN by its type
abbrev pub two_octet_open : List ℕ → Option Note
two_octet_open fields =
    if is_ipv4_message fields && is_kind kinds.Open (kind_of_type (type_in (drop 16 fields))) then Some (opener_of fields)
    else None

-- the meaning of a record of a session with two-octet AS numbers: its messages have Subtype 1, and only an OPEN is
-- read (our choice)
unfoldable pub two_octet_note : MrtRecord → Option Note
two_octet_note r = if r.subtype == 1 then option_and_then two_octet_open (fields_of r) else None

-- the Hold Time of an OPEN behind such fields, and below, in a record of a session with two-octet AS numbers; 0 if it
-- is none
abbrev pub hold_behind : Option (List ℕ) → ℕ
hold_behind None = 0
hold_behind (Some fields) = if is_ipv4_message fields then hold_of (drop 16 fields) else 0

unfoldable pub two_octet_hold : MrtRecord → ℕ
two_octet_hold r = if r.subtype == 1 then hold_behind (fields_of r) else 0

-- what a record adds to an inventory, by its meaning
abbrev pub finding_by : Depth → MrtRecord → Result Meaning MrtFault → Finding
finding_by depth r (Ok (Message asn address octets)) = record {
  time = r.time;
  kind = kind_at depth octets;
  octets = known_octets r.body;
  recorder = recorder_in (fields_of r);
  hold = hold_of octets;
  note = Some (note_of address asn (news_at depth octets));
}
finding_by depth r (Ok (State asn address old new)) = record {
  time = r.time;
  kind = kinds.StateChange;
  octets = known_octets r.body;
  recorder = None;
  hold = 0;
  note = Some (note_of address asn (news_of_states old new));
}
finding_by depth r (Ok Other) =
    record {
      time = r.time;
      kind = unread_kind r;
      octets = known_octets r.body;
      recorder = None;
      hold = two_octet_hold r;
      note = two_octet_note r;
    }
finding_by depth r (Err fault) =
    record {
      time = r.time;
      kind = kinds.CutShort;
      octets = known_octets r.body;
      recorder = None;
      hold = 0;
      note = None;
    }

-- what a record adds to an inventory
abbrev pub finding_of : Depth → MrtRecord → Finding
finding_of depth r = finding_by depth r (entry_of r)
