-- The flags of path attributes in a table. An entry has its attributes as in an UPDATE (RFC 6396, section 4.3.4),
-- but some collectors write other flags. Our choice: a table's flags of a recognized type aren't tested. The right
-- flags replace them.
use Rattle.std.specs.Prelude.{ℕ, ◌+◌, List, ◌++◌, if◌then◌else◌}
use Rattle.std.specs.List.{flat_map}
use Rattle.rs_types.specs.AttributeType.{flags_of, is_extended, is_partial, type_of}
use Rattle.rs_types.specs.Section.{Item, items_of, rest_of}
use Rattle.rs_types.specs.Spelling.{spelled_item}
use Rattle.rs_types.specs.declared.attribute_type.AttributeType.{AttributeType}
use Rattle.rs_types.specs.declared.attribute_type.AttributeType.TheVariants.{LocalPref}
use Rattle.rs_types.specs.declared.attribute_type.WantedFlags.{WantedFlags}
use Rattle.rs_types.specs.declared.attribute_type.WantedFlags.TheVariants.{WellKnown, OptionalNonTransitive}
use Rattle.rs_types.specs.declared.attribute_type.WantedFlags.TheVariants.{OptionalTransitive, Optional, Any}

-- Extended Length stays, since it says where the value begins
abbrev pub extended_bit : ℕ → ℕ
extended_bit flags = if is_extended flags then 0x10 else 0

-- The flags with which an attribute is sent (RFC 4271, section 4.3): Optional and Transitive as its type asks.
-- Partial stays if the attribute is optional and transitive, and is 0 otherwise. The low four bits are 0. The flags
-- of a type that isn't recognized, or that is dropped, stay.
abbrev pub right_flags : WantedFlags → ℕ → ℕ
right_flags WellKnown flags = 0x40 + extended_bit flags
right_flags OptionalNonTransitive flags = 0x80 + extended_bit flags
right_flags OptionalTransitive flags = (if is_partial flags then 0xE0 else 0xC0) + extended_bit flags
right_flags Optional flags = flags
right_flags Any flags = flags

-- LOCAL_PREF is well-known (section 5.1.5). A route server drops it, so its flags don't matter there.
abbrev pub asked_of : AttributeType → WantedFlags
asked_of LocalPref = WellKnown
asked_of kind = flags_of kind

abbrev pub with_right_flags : Item → Item
with_right_flags item =
    record { flags = right_flags (asked_of (type_of item.kind)) item.flags; kind = item.kind; value = item.value }

-- A section with the right flags: its attributes in order, and then the octets that are left over, unchanged.
unfoldable pub mended : List ℕ → List ℕ
mended section = flat_map (λ item. spelled_item (with_right_flags item)) (items_of section) ++ rest_of section
