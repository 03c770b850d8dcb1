-- What a record says of a BGP session (RFC 6396, sections 3, 4.4.1, 4.4.3, 4.4.4 and 4.5).
use Rattle.std.specs.Prelude.{◌≡◌, ℕ, ◌+◌, ◌-◌, nat_lt, ◌==◌, ◌&&◌, not, if◌then◌else◌, List, length, take, drop}
use Rattle.std.specs.Prelude.{Result, Ok, Err}
use Rattle.byteorder.specs.Endian.{big_number}
use Rattle.rs_mrt.specs.declared.fault.MrtFault.{MrtFault}
use Rattle.rs_mrt.specs.declared.fault.MrtFault.TheVariants.{FieldsCutShort, MicrosecondsCutShort}
use Rattle.rs_mrt.specs.declared.meaning.Entry.{Entry}
use Rattle.rs_mrt.specs.declared.meaning.Entry.TheVariants as entry
use Rattle.rs_mrt.specs.Record.{MrtRecord}

-- The meaning of a record. The peer has sent a BGP message, or the session with it has gone from one state to
-- another. Every other record is ignored.
pub data Meaning : Type 0 where
  Message : (peer_as peer : ℕ) (message : List ℕ) → Meaning
  State : (peer_as peer old new : ℕ) → Meaning
  Other : Meaning

-- the meaning of a value of the program
abbrev pub meaning_of : Entry → Meaning
meaning_of (entry.Message peer_as peer message) = Message peer_as peer message.now
meaning_of (entry.State peer_as peer old new) = State peer_as peer old new
meaning_of entry.Other = Other

-- the meaning of an answer of the program
abbrev pub answer_of : Result Entry MrtFault → Result Meaning MrtFault
answer_of (Ok found) = Ok (meaning_of found)
answer_of (Err fault) = Err fault

-- ---- codes and offsets

-- the Types of records of BGP sessions, without and with microseconds (sections 4.4 and 4.5)
abbrev pub type_bgp4mp : ℕ
type_bgp4mp = 16

abbrev pub type_bgp4mp_et : ℕ
type_bgp4mp_et = 17

-- the Subtypes with AS numbers of four octets: a message, a state change (sections 4.4.3 and 4.4.4)
abbrev pub subtype_message_as4 : ℕ
subtype_message_as4 = 4

abbrev pub subtype_state_change_as4 : ℕ
subtype_state_change_as4 = 5

-- the Address Family of IPv4
abbrev pub family_ipv4 : ℕ
family_ipv4 = 1

-- how many octets of microseconds there are (section 3)
abbrev pub microseconds_len : ℕ
microseconds_len = 4

-- the number of the state Established (section 4.4.1)
abbrev pub established : ℕ
established = 6

-- The offsets of the fields of both Subtypes: Peer AS 0, Local AS 4, Interface Index 8, Address Family 10. Peer IP
-- Address 12, Local IP Address 16; the message or the two states begin at 20.
abbrev pub family_place : ℕ
family_place = 10

abbrev pub family_end : ℕ
family_end = 12

abbrev pub peer_place : ℕ
peer_place = 12

abbrev pub message_place : ℕ
message_place = 20

abbrev pub old_state_place : ℕ
old_state_place = 20

abbrev pub new_state_place : ℕ
new_state_place = 22

abbrev pub states_end : ℕ
states_end = 24

-- ---- the fields of BGP4MP

-- BGP4MP_MESSAGE_AS4 has these fields: Peer AS, Local AS, Interface Index, Address Family, Peer IP Address and Local
-- IP Address. The BGP message follows; it may be empty (section 4.4.3).
abbrev pub message_entry : List ℕ → Result Meaning MrtFault
message_entry fields =
    if nat_lt (length fields) message_place then Err FieldsCutShort
    else Ok (Message (big_number 4 fields) (big_number 4 (drop peer_place fields)) (drop message_place fields))

-- BGP4MP_STATE_CHANGE_AS4 has the same fields up to the addresses, then Old State and New State (section 4.4.4).
-- Octets behind them have no effect (our choice).
abbrev pub state_entry : List ℕ → Result Meaning MrtFault
state_entry fields =
    if nat_lt (length fields) states_end then Err FieldsCutShort
    else Ok (State (big_number 4 fields) (big_number 4 (drop peer_place fields))
    (big_number 2 (drop old_state_place fields)) (big_number 2 (drop new_state_place fields)))

-- The meaning of the fields of a record of Type BGP4MP with this Subtype. The two Subtypes with AS numbers of four
-- octets are read, for IPv4 peers. The order of the tests is our choice.
unfoldable pub fields_entry : ℕ → List ℕ → Result Meaning MrtFault
fields_entry subtype fields =
    if not (subtype == subtype_message_as4) && not (subtype == subtype_state_change_as4) then Ok Other
    else if nat_lt (length fields) family_end then Err FieldsCutShort
    else if not (big_number 2 (drop family_place fields) == family_ipv4) then Ok Other
    else if subtype == subtype_message_as4 then message_entry fields
    else state_entry fields

-- ---- a record

-- A record of Type BGP4MP_ET has a Microsecond Timestamp of 4 octets before the fields, and Length counts it
-- (section 3). The Microsecond Timestamp has no effect (our choice). A record of another Type is ignored.
unfoldable pub entry_of : MrtRecord → Result Meaning MrtFault
entry_of r =
    if r.kind == type_bgp4mp then fields_entry r.subtype r.body
    else if r.kind == type_bgp4mp_et
    then (if nat_lt (length r.body) microseconds_len then Err MicrosecondsCutShort
    else fields_entry r.subtype (drop microseconds_len r.body))
    else Ok Other

-- ---- the front of a record

-- How many octets of a body are enough: microseconds, fields, and one octet more than the longest BGP message has.
-- That is 4 + 20 + 4,096 + 1 (RFC 4271, section 4.1).
abbrev pub front_len : ℕ
front_len = 4121

-- the record with the first 4,121 octets of its body alone
abbrev pub front_of : MrtRecord → MrtRecord
front_of r = record { time = r.time; kind = r.kind; subtype = r.subtype; body = take front_len r.body }

-- a meaning with the first n octets of its message alone
abbrev pub cut_message : ℕ → Result Meaning MrtFault → Result Meaning MrtFault
cut_message n (Ok (Message peer_as peer message)) = Ok (Message peer_as peer (take n message))
cut_message n (Ok (State peer_as peer old new)) = Ok (State peer_as peer old new)
cut_message n (Ok Other) = Ok Other
cut_message n (Err fault) = Err fault

-- how many octets of a message fit the front of a record: 4,097 or 4,101, each more than the longest message has
abbrev pub message_room : MrtRecord → ℕ
message_room r =
    if r.kind == type_bgp4mp_et then front_len - (microseconds_len + message_place) else front_len - message_place

-- The front of a record has the meaning of the record; only a message that is longer than allowed loses octets.
abbrev pub FrontSaysTheSame : Type 0
FrontSaysTheSame = (r : MrtRecord) → entry_of (front_of r) ≡ cut_message (message_room r) (entry_of r)
