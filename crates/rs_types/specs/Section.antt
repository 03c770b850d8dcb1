-- A section of path attributes, and its first fault (RFC 4271, sections 4.3, 5 and 6.3; RFC 6793; RFC 1997).
use Rattle.std.specs.Prelude.{◌≡◌, ℕ, ◌+◌, ◌*◌, ◌<◌, Bool, false, not, ◌&&◌, ◌==◌, nat_lt, List, [], ◌∷◌, ◌++◌, length}
use Rattle.std.specs.Prelude.{take, drop, Option, Some, None, is_some, if◌then◌else◌}
use Rattle.std.specs.List.{list_any}
use Rattle.byteorder.specs.Endian.{big_bytes}
use Rattle.rs_types.specs.declared.attribute_type.AttributeType.{AttributeType}
use Rattle.rs_types.specs.declared.attribute_type.ValueTest.{ValueTest}
use Rattle.rs_types.specs.declared.attribute_type.ValueTest.TheVariants.{OriginCode, Segments, HostAddress, AnyValue}
use Rattle.rs_types.specs.declared.fault.UpdateFault.{UpdateFault}
use Rattle.rs_types.specs.declared.fault.UpdateFault.TheVariants.{MalformedAttributeList, UnrecognizedWellKnown}
use Rattle.rs_types.specs.declared.fault.UpdateFault.TheVariants.{AttributeFlags, AttributeLength, InvalidOrigin}
use Rattle.rs_types.specs.declared.fault.UpdateFault.TheVariants.{InvalidNextHop, MalformedAsPath}
use Rattle.rs_types.specs.declared.values.Origin.{Origin}
use Rattle.rs_types.specs.declared.values.Origin.TheVariants.{Igp, Egp, Incomplete}
use Rattle.rs_types.specs.AttributeType.{type_of, row_of, flags_of, suits, admits, is_unrecognized, is_optional}
use Rattle.rs_types.specs.AttributeType.{is_extended}
use Rattle.rs_types.specs.FirstFault.{first_fault, or_else}
use Rattle.rs_types.specs.Parts.{parts_of}
use Rattle.rs_types.specs.PathSegments.{segments_of}

-- one attribute: its flags, the number of its type, and its value
pub record Item : Type 0 where
  pub flags : ℕ
  pub kind : ℕ
  pub value : List ℕ

-- The length of a value takes two octets if the Extended Length flag is set, or else one. The flag may be set for
-- any length.
abbrev pub spelled_length : Item → List ℕ
spelled_length item = if is_extended item.flags then big_bytes 2 (length item.value) else length item.value ∷ []

abbrev pub FitsItsLength : Item → Type 0
FitsItsLength item = length item.value < (if is_extended item.flags then 65536 else 256)

-- octets that spell an attribute: flags, type, length, value
abbrev pub SpellsItem : List ℕ → Item → Type 0
SpellsItem octets item = (octets ≡ item.flags ∷ item.kind ∷ (spelled_length item ++ item.value)) × FitsItsLength item

-- the value that the octets begin with, and the octets behind it, if there are enough octets
abbrev pub item_with : ℕ → ℕ → ℕ → List ℕ → Option (Item × List ℕ)
item_with flags kind count octets =
    if nat_lt (length octets) count then None
    else Some (record { flags = flags; kind = kind; value = take count octets }, drop count octets)

abbrev pub long_item_at : ℕ → ℕ → List ℕ → Option (Item × List ℕ)
long_item_at flags kind [] = None
long_item_at flags kind (high ∷ []) = None
long_item_at flags kind (high ∷ low ∷ octets) = item_with flags kind (high * 256 + low) octets

abbrev pub short_item_at : ℕ → ℕ → List ℕ → Option (Item × List ℕ)
short_item_at flags kind [] = None
short_item_at flags kind (count ∷ octets) = item_with flags kind count octets

-- the attribute that the octets begin with, and the octets behind it
unfoldable pub item_at : List ℕ → Option (Item × List ℕ)
item_at [] = None
item_at (flags ∷ []) = None
item_at (flags ∷ kind ∷ octets) =
    if is_extended flags then long_item_at flags kind octets else short_item_at flags kind octets

-- the attributes of a section, and below, the octets that are left over
abbrev pub items_of : List ℕ → List Item
items_of section = (parts_of item_at section).0

-- the octets that are left over behind the attributes of a section
abbrev pub rest_of : List ℕ → List ℕ
rest_of section = (parts_of item_at section).1

-- what the length of a value must be, by its type
abbrev pub suits_length : AttributeType → ℕ → Bool
suits_length kind count = admits (row_of kind).lengths count

-- the code of an origin (section 4.3)
abbrev pub origin_of : ℕ → Option Origin
origin_of code =
    if code == 0 then Some Igp else if code == 1 then Some Egp else if code == 2 then Some Incomplete else None

-- ORIGIN is one octet, the code of an origin
abbrev pub is_origin : List ℕ → Bool
is_origin (code ∷ []) = is_some (origin_of code)
is_origin value = false

-- NEXT_HOP must not begin with 0, or with 224 or more (our choice)
abbrev pub is_next_hop : List ℕ → Bool
is_next_hop [] = false
is_next_hop (first ∷ later) = nat_lt 0 first && nat_lt first 224

-- AS_PATH is a list of segments, with nothing left over; the list may be empty
abbrev pub is_path : List ℕ → Bool
is_path value = length (segments_of value).1 == 0

-- the tests of a value whose length is right for its type
abbrev pub tests_by : ValueTest → List ℕ → List (Bool × UpdateFault)
tests_by OriginCode value = (not (is_origin value), InvalidOrigin) ∷ []
tests_by Segments value = (not (is_path value), MalformedAsPath) ∷ []
tests_by HostAddress value = (not (is_next_hop value), InvalidNextHop) ∷ []
tests_by AnyValue value = []

-- the tests of the value of an attribute, by its type
abbrev pub value_tests : AttributeType → List ℕ → List (Bool × UpdateFault)
value_tests kind value = tests_by (row_of kind).value value

-- the tests of one attribute, in their order
abbrev pub tests_of : AttributeType → ℕ → List ℕ → List (Bool × UpdateFault)
tests_of kind flags value =
    (is_unrecognized kind && not (is_optional flags), UnrecognizedWellKnown)
    ∷ (not (suits (flags_of kind) flags), AttributeFlags)
    ∷ (not (suits_length kind (length value)), AttributeLength)
    ∷ value_tests kind value

-- the first fault that the tests of an attribute find
abbrev pub own_fault_of : Item → Option UpdateFault
own_fault_of item = first_fault (tests_of (type_of item.kind) item.flags item.value)

-- whether a list of attributes has one of this type
abbrev pub has_type : ℕ → List Item → Bool
has_type kind items = list_any (λ item. item.kind == kind) items

-- the fault of an attribute that stands behind others: its type stood earlier, or else the first fault of its own
-- tests
abbrev pub fault_behind : List Item → Item → Option UpdateFault
fault_behind earlier item = if has_type item.kind earlier then Some MalformedAttributeList else own_fault_of item

-- the fault of the first attribute that is at fault
unfoldable pub first_item_fault : List Item → List Item → Option UpdateFault
first_item_fault earlier [] = None
first_item_fault earlier (item ∷ later) =
    or_else (fault_behind earlier item) (first_item_fault (earlier ++ item ∷ []) later)

-- octets that are left over are a fault
abbrev pub fault_of_rest : List ℕ → Option UpdateFault
fault_of_rest rest = if length rest == 0 then None else Some MalformedAttributeList

-- the first fault of a section: the attributes are tested from front to back, and then whether octets are left over
abbrev pub section_fault : List ℕ → Option UpdateFault
section_fault section = or_else (first_item_fault [] (items_of section)) (fault_of_rest (rest_of section))

-- ---- the first fault of a section, by the places of its attributes

-- no attribute is at fault, each taken with those before it
abbrev pub AreFaultless : List Item → Type 0
AreFaultless items =
    (before : List Item) (item : Item) (after : List Item) → items ≡ before ++ item ∷ after
    → fault_behind before item ≡ None

-- some attribute has this fault, and no attribute before it is at fault
abbrev pub IsFirstAtFault : List Item → UpdateFault → Type 0
IsFirstAtFault items fault =
    (before : List Item) × (item : Item) × (after : List Item)
    × (items ≡ before ++ item ∷ after) × (fault_behind before item ≡ Some fault) × AreFaultless before
