-- The header of a message (RFC 4271, sections 4.1 and 6.1): Marker, Length, Type.
use Rattle.std.specs.Prelude.{ℕ, Bool, false, not, ◌&&◌, ◌==◌, nat_lt, nat_le, List, [], ◌∷◌, length, take, drop}
use Rattle.std.specs.Prelude.{slice_index, Option, Some, None, Result, Err, if◌then◌else◌}
use Rattle.std.specs.List.{list_all}
use Rattle.std.specs.Option.{is_none, ok_or}
use Rattle.byteorder.specs.Endian.{big_number}
use Rattle.rs_update.specs.declared.fault.HeaderFault.{HeaderFault}
use Rattle.rs_update.specs.declared.fault.HeaderFault.TheVariants.{NotSynchronized, BadLength, BadType}
use Rattle.rs_update.specs.declared.header.MessageType.{MessageType}
use Rattle.rs_update.specs.declared.header.MessageType.TheVariants.{Open, Update, Notification, KeepAlive, Refresh}
use Rattle.rs_types.specs.FirstFault.{first_fault}

-- the Marker is sixteen octets, all of whose bits are 1
abbrev pub is_marked : List ℕ → Bool
is_marked octets = list_all (λ octet. octet == 0xff) (take 16 octets)

-- the Length field: the number of octets of the message, with its header
abbrev pub length_field : List ℕ → ℕ
length_field octets = big_number 2 (drop 16 octets)

-- the Length is 19 to 4096, and the message has that many octets
abbrev pub has_length : List ℕ → Bool
has_length octets =
    nat_le 19 (length_field octets) && nat_le (length_field octets) 4096 && (length_field octets == length octets)

-- the Type field
abbrev pub type_field : List ℕ → ℕ
type_field octets = slice_index octets 18

-- the types of messages (section 4.1; RFC 2918 for ROUTE-REFRESH)
abbrev pub type_of : ℕ → Option MessageType
type_of number =
    if number == 1 then Some Open
    else if number == 2 then Some Update
    else if number == 3 then Some Notification
    else if number == 4 then Some KeepAlive
    else if number == 5 then Some Refresh
    else None

-- The Length that suits a type. A KEEPALIVE is its header alone. A message of another type has at least room for its
-- mandatory fields.
abbrev pub suits : MessageType → ℕ → Bool
suits Open count = nat_le 29 count
suits Update count = nat_le 23 count
suits Notification count = nat_le 21 count
suits KeepAlive count = count == 19
suits Refresh count = nat_le 19 count

-- no Length suits an unknown type
abbrev pub suits_type : Option MessageType → ℕ → Bool
suits_type None count = false
suits_type (Some kind) count = suits kind count

-- the tests of the header, in their order (our choice)
abbrev pub header_tests : List ℕ → List (Bool × HeaderFault)
header_tests octets =
    (nat_lt (length octets) 19, BadLength)
    ∷ (not (is_marked octets), NotSynchronized)
    ∷ (not (has_length octets), BadLength)
    ∷ (is_none (type_of (type_field octets)), BadType)
    ∷ (not (suits_type (type_of (type_field octets)) (length octets)), BadLength) ∷ []

-- the first fault of a header
abbrev pub header_fault : List ℕ → Option HeaderFault
header_fault octets = first_fault (header_tests octets)

-- the type of a message, or the first fault of its header
abbrev pub header_of : List ℕ → Result MessageType HeaderFault
header_of octets =
    elim (header_fault octets) [ None ↦ ok_or (type_of (type_field octets)) BadType | Some fault ↦ Err fault ]
