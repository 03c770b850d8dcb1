-- The kind of a record (RFC 6396, sections 4.3 and 4.4; RFC 8050, section 3).
use Rattle.std.specs.Prelude.{ℕ, ◌==◌, ◌&&◌, ◌||◌, nat_lt, nat_le, Bool, if◌then◌else◌, List, length, drop, Option}
use Rattle.std.specs.Prelude.{Some, None, codes}
use Rattle.byteorder.specs.Endian.{big_number}
use Rattle.rs_mrt.specs.Entry.{type_bgp4mp, type_bgp4mp_et, subtype_message_as4, subtype_state_change_as4}
use Rattle.rs_mrt.specs.Entry.{microseconds_len, family_place, family_end}
use Rattle.rs_mrt.specs.Record.{MrtRecord}
use Rattle.rs_inventory.specs.declared.kind.Kind.{Kind}
use Rattle.rs_inventory.specs.declared.kind.Kind.TheVariants as kinds

-- the place of a kind in lists of all kinds (our choice)
abbrev pub place_of : Kind → ℕ
place_of kinds.Update = 0
place_of kinds.Open = 1
place_of kinds.Notification = 2
place_of kinds.KeepAlive = 3
place_of kinds.RouteRefresh = 4
place_of kinds.Faulty = 5
place_of kinds.StateChange = 6
place_of kinds.TwoOctet = 7
place_of kinds.AddPath = 8
place_of kinds.Ipv6 = 9
place_of kinds.TableDumpV2 = 10
place_of kinds.CutShort = 11
place_of kinds.Other = 12

-- the name of a kind in lists for people (our choice)
abbrev pub kind_name : Kind → List ℕ
kind_name kinds.Update = codes "UPDATE"
kind_name kinds.Open = codes "OPEN"
kind_name kinds.Notification = codes "NOTIFICATION"
kind_name kinds.KeepAlive = codes "KEEPALIVE"
kind_name kinds.RouteRefresh = codes "ROUTE-REFRESH"
kind_name kinds.Faulty = codes "messages with a fault"
kind_name kinds.StateChange = codes "changes of state"
kind_name kinds.TwoOctet = codes "not read: two-octet AS numbers"
kind_name kinds.AddPath = codes "not read: ADD-PATH"
kind_name kinds.Ipv6 = codes "not read: IPv6 peers"
kind_name kinds.TableDumpV2 = codes "not read: TABLE_DUMP_V2"
kind_name kinds.CutShort = codes "shorter than their fields"
kind_name kinds.Other = codes "not read: others"

-- whether two kinds are the same
abbrev pub is_kind : Kind → Kind → Bool
is_kind one other = place_of one == place_of other

-- the fields of a record of a session; for Type BGP4MP_ET they are behind the microseconds (RFC 6396, sections 3 and
-- 4.5)
abbrev pub fields_of : MrtRecord → Option (List ℕ)
fields_of r =
    if r.kind == type_bgp4mp then Some r.body
    else if r.kind == type_bgp4mp_et
    then (if nat_lt (length r.body) microseconds_len then None else Some (drop microseconds_len r.body))
    else None

-- the Address Family of a session with four-octet AS numbers is IPv6
abbrev pub is_ipv6 : List ℕ → Bool
is_ipv6 fields = nat_le family_end (length fields) && (big_number 2 (drop family_place fields) == 2)

-- The kind of a record of a session, by its Subtype: 0 and 1 with two-octet AS numbers (RFC 6396, sections 4.4.1 and
-- 4.4.2), 8 to 11 with ADD-PATH (RFC 8050, section 3). Subtypes 4 and 5 may be of an IPv6 peer.
abbrev pub session_kind : ℕ → Option (List ℕ) → Kind
session_kind subtype None = kinds.Other
session_kind subtype (Some fields) =
    if (subtype == 0) || (subtype == 1) then kinds.TwoOctet
    else if nat_le 8 subtype && nat_le subtype 11 then kinds.AddPath
    else if ((subtype == subtype_state_change_as4) || (subtype == subtype_message_as4)) && is_ipv6 fields
    then kinds.Ipv6
    else kinds.Other

-- the kind of a record that a route server doesn't read: Type 13 is TABLE_DUMP_V2 (RFC 6396, section 4.3)
unfoldable pub unread_kind : MrtRecord → Kind
unread_kind r = if r.kind == 13 then kinds.TableDumpV2 else session_kind r.subtype (fields_of r)
