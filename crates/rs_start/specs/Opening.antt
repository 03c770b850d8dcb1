-- The beginning of a peer's session that a table gives. The session comes up, and UPDATEs announce the peer's routes
-- in the table. Its form is that of RFC 6396, sections 4.4.3 and 4.4.4, and RFC 4271, section 4.3.
use Rattle.std.specs.Prelude.{◌≡◌, ℕ, ◌+◌, ◌^◌, ◌<◌, ◌≤◌, false, List, [], ◌∷◌, ◌++◌, length, map}
use Rattle.std.specs.Prelude.{Option, Some, None, replicate, nat_lt, if◌then◌else◌}
use Rattle.std.specs.List.{flat_map, AllByRecursion}
use Rattle.byteorder.specs.Endian.{big_bytes}
use Rattle.rs_mrt.specs.Entry.{type_bgp4mp, subtype_message_as4, subtype_state_change_as4, established, family_ipv4}
use Rattle.rs_mrt.specs.Record.{MrtRecord, header_spelling, record_spelling}
use Rattle.rs_session.specs.Change.{Change}
use Rattle.rs_session.specs.UpdateChanges.{announces}
use Rattle.rs_update.specs.Gathered.{attributes_of}
use Rattle.rs_update.specs.IpPrefix.{IpPrefix, IsPrefix}
use Rattle.rs_update.specs.PathAttributes.{PathAttributes}
use Rattle.rs_update.specs.Prefix.{spelled_prefix, is_multicast}
use Rattle.rs_update.specs.Section.{items_of, section_fault}
use Rattle.rs_types.specs.declared.fault.UpdateFault.{UpdateFault}
use Rattle.rs_start.specs.declared.added.Added.{Added}
use Rattle.rs_start.specs.declared.added.Added.TheVariants.{Written, LeftOut}
use Rattle.rs_start.specs.declared.added.Reason.TheVariants.{Multicast, TooLong, AttributesAtFault}
use Rattle.rs_start.specs.declared.start.Start.{Start}

-- ---- what is announced

-- a route that a peer has in a table
pub record TableRoute : Type 0 where
  pub prefix : IpPrefix
  pub attributes : PathAttributes

-- an UPDATE that announces prefixes: its path attributes as they stand in the table, their values, and the prefixes
pub record Announcing : Type 0 where
  pub section : List ℕ
  pub attributes : PathAttributes
  pub prefixes : List IpPrefix

-- the routes that an UPDATE announces
abbrev pub routes_of : Announcing → List TableRoute
routes_of update = map (λ prefix. record { prefix = prefix; attributes = update.attributes }) update.prefixes

abbrev pub routes_in : List Announcing → List TableRoute
routes_in updates = flat_map routes_of updates

-- the change of a route's announcement at a time
abbrev pub announced : ℕ → TableRoute → Change
announced time route = announces time route.attributes route.prefix

-- ---- octets of an UPDATE (RFC 4271, sections 4.1 and 4.3)

-- NLRI
abbrev pub nlri_spelling : List IpPrefix → List ℕ
nlri_spelling prefixes = flat_map spelled_prefix prefixes

-- how many octets an UPDATE has without its path attributes and NLRI: 19 of the header, and two lengths
abbrev pub fixed_len : ℕ
fixed_len = 23

-- Marker, Length, Type; no Withdrawn Routes; how many octets of path attributes
abbrev pub update_head : ℕ → ℕ → List ℕ
update_head section_len nlri_len =
    replicate 16 0xFF ++ big_bytes 2 (fixed_len + section_len + nlri_len)
    ++ 2 ∷ (big_bytes 2 0 ++ big_bytes 2 section_len)

-- an UPDATE: its head, path attributes and NLRI
unfoldable pub update_spelling : List ℕ → List ℕ → List ℕ
update_spelling section nlri = update_head (length section) (length nlri) ++ section ++ nlri

abbrev pub announcing_spelling : Announcing → List ℕ
announcing_spelling update = update_spelling update.section (nlri_spelling update.prefixes)

-- An UPDATE that a peer can have sent has path attributes without fault, at least one prefix, and at most 4,096
-- octets. Each of its prefixes has its host bits cleared and is not a multicast prefix.
pub record IsRoutePrefix (prefix : IpPrefix) : Type 0 where
  pub address : prefix.address < 2 ^ 32
  pub cleared : IsPrefix prefix.address prefix.len
  pub unicast : is_multicast prefix ≡ false

pub record IsSound (update : Announcing) : Type 0 where
  pub faultless : section_fault update.section ≡ None
  pub says : attributes_of (items_of update.section) ≡ Some update.attributes
  pub some : 0 < length update.prefixes
  pub prefixes : AllByRecursion IsRoutePrefix update.prefixes
  pub fits : fixed_len + length update.section + length (nlri_spelling update.prefixes) ≤ 4096

-- ---- records (RFC 6396, sections 4.4.3 and 4.4.4)

-- the numbers fit their fields
pub record IsStart (start : Start) : Type 0 where
  pub time : start.time < 2 ^ 32
  pub asn : start.peer.asn < 2 ^ 32
  pub address : start.peer.address < 2 ^ 32

-- Peer AS, Local AS, Interface Index, which is 0, Address Family, Peer IP Address, Local IP Address
abbrev pub parties : Start → List ℕ
parties start =
    big_bytes 4 start.peer.asn ++ big_bytes 4 start.local.asn ++ big_bytes 2 0 ++ big_bytes 2 family_ipv4
    ++ big_bytes 4 start.peer.address ++ big_bytes 4 start.local.address

-- the octets of a record before its states or its message
abbrev pub record_head : Start → ℕ → ℕ → List ℕ
record_head start subtype body_len = header_spelling start.time type_bgp4mp subtype body_len ++ parties start

-- from OpenConfirm to Established
abbrev pub up_record : Start → MrtRecord
up_record start = record {
  time = start.time;
  kind = type_bgp4mp;
  subtype = subtype_state_change_as4;
  body = parties start ++ big_bytes 2 5 ++ big_bytes 2 established;
}

-- a message of the peer
abbrev pub message_record : Start → List ℕ → MrtRecord
message_record start message = record {
  time = start.time;
  kind = type_bgp4mp;
  subtype = subtype_message_as4;
  body = parties start ++ message;
}

abbrev pub announcing_record : Start → Announcing → MrtRecord
announcing_record start update = message_record start (announcing_spelling update)

-- the octets of UPDATEs
abbrev pub updates_spelling : Start → List Announcing → List ℕ
updates_spelling start updates = flat_map (λ update. record_spelling (announcing_record start update)) updates

-- the beginning of a session: the session comes up, and these UPDATEs follow
abbrev pub opening_spelling : Start → List Announcing → List ℕ
opening_spelling start updates = record_spelling (up_record start) ++ updates_spelling start updates

-- ---- an entry of a table

-- the attributes that a section gives announced routes, if it has no fault (RFC 4271, section 6.3)
abbrev pub attributes_by : Option UpdateFault → List ℕ → Option PathAttributes
attributes_by None section = attributes_of (items_of section)
attributes_by (Some fault) section = None

abbrev pub sound_attributes : List ℕ → Option PathAttributes
sound_attributes section = attributes_by (section_fault section) section

-- what is done with an entry, by its attributes
abbrev pub added_by : Option PathAttributes → Added
added_by None = LeftOut AttributesAtFault
added_by (Some attributes) = Written

-- What is done with an entry, by its prefix and path attributes: it is written, or it is left out for one of three
-- reasons. In this order (our choice): the prefix is multicast, no message has room for the attributes and the
-- prefix, or the attributes are at fault.
abbrev pub added_of : IpPrefix → List ℕ → Added
added_of prefix section =
    if is_multicast prefix then LeftOut Multicast
    else if nat_lt 4096 (fixed_len + length section + length (spelled_prefix prefix)) then LeftOut TooLong
    else added_by (sound_attributes section)

-- the route that is written, if one is
abbrev pub route_with : Option PathAttributes → IpPrefix → List TableRoute
route_with None prefix = []
route_with (Some attributes) prefix = record { prefix = prefix; attributes = attributes } ∷ []

abbrev pub route_by : Added → IpPrefix → List ℕ → List TableRoute
route_by Written prefix section = route_with (sound_attributes section) prefix
route_by (LeftOut reason) prefix section = []
