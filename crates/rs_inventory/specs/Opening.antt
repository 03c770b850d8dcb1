-- The BGP Identifier and the AS number in an OPEN (RFC 4271, section 4.2; RFC 5492, section 4; RFC 6793, sections 3
-- and 9).
use Rattle.std.specs.Prelude.{ℕ, ◌==◌, ◌&&◌, nat_lt, if◌then◌else◌, List, [], ◌∷◌, length, take, drop, Option, Some}
use Rattle.std.specs.Prelude.{None}
use Rattle.std.specs.Option.{option_or}
use Rattle.byteorder.specs.Endian.{big_number}
use Rattle.rs_update.specs.Parts.{parts_of}
use Rattle.rs_inventory.specs.declared.opening.Item.{Item}

-- the BGP Identifier: it comes after the header of 19 octets, the version, the AS number of two octets and the hold
-- time
abbrev pub identifier_of : List ℕ → ℕ
identifier_of octets = if nat_lt (length octets) 28 then 0 else big_number 4 (drop 24 octets)

-- the hold time: it comes after the header, the version and the AS number
abbrev pub hold_time_of : List ℕ → ℕ
hold_time_of octets = if nat_lt (length octets) 24 then 0 else big_number 2 (drop 22 octets)

-- an item, as an Optional Parameter or a capability is: its type, and its value
pub record ItemContent : Type 0 where
  pub kind : ℕ
  pub value : List ℕ

-- the item as which callers see a value of the program
abbrev pub item_of : Item → ItemContent
item_of item = record { kind = item.kind; value = item.value.now }

-- the first item, which is an octet of type, an octet of length and as many octets of value, and the octets behind
-- it
abbrev pub item_at : List ℕ → Option (ItemContent × List ℕ)
item_at [] = None
item_at (kind ∷ []) = None
item_at (kind ∷ len ∷ octets) =
    if nat_lt (length octets) len then None else Some (record { kind = kind; value = take len octets }, drop len octets)

-- the items of a list, one after another; what is left over is no item
abbrev pub items_of : List ℕ → List ItemContent
items_of octets = (parts_of item_at octets).0

-- the first answer in a list
abbrev pub first_found : {X Y : Type 0} → (X → Option Y) → List X → Option Y
first_found ask [] = None
first_found ask (x ∷ xs) = option_or (ask x) (first_found ask xs)

-- the AS number in a capability: Code 65 has an AS number of four octets (RFC 6793, section 3)
abbrev pub as_of_capability : ItemContent → Option ℕ
as_of_capability item = if (item.kind == 65) && (length item.value == 4) then Some (big_number 4 item.value) else None

-- the AS number in an Optional Parameter: Type 2 lists capabilities (RFC 5492, section 4)
abbrev pub as_of_parameter : ItemContent → Option ℕ
as_of_parameter item = if item.kind == 2 then first_found as_of_capability (items_of item.value) else None

-- the AS number of four octets in an OPEN; its Optional Parameters stand behind their length
abbrev pub four_octet_as : List ℕ → Option ℕ
four_octet_as octets =
    if nat_lt (length octets) 29 then None else first_found as_of_parameter (items_of (drop 29 octets))

-- 23456 stands for an AS number that does not fit two octets (RFC 6793, section 9)
abbrev pub or_recorded : ℕ → Option ℕ → ℕ
or_recorded recorded None = recorded
or_recorded recorded (Some told) = told

-- the AS number of the sender of an OPEN whose record has AS numbers of two octets
unfoldable pub sender_as : ℕ → List ℕ → ℕ
sender_as recorded octets = if recorded == 23456 then or_recorded recorded (four_octet_as octets) else recorded
