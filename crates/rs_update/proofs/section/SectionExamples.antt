-- Sections of path attributes by hand, each with its first fault.
use Rattle.std.proofs.Common.{◌≡◌, List, ℕ, [], ◌∷◌, ◌++◌, map, Option, Some, None, true, false, refl, lit<}
use Rattle.rs_types.specs.declared.attribute_type.AttributeType.TheVariants.{Origin, MultiExitDisc, As4Path, Communities, Unrecognized}
use Rattle.rs_types.specs.declared.attribute_type.WantedFlags.TheVariants.{WellKnown}
use Rattle.rs_types.specs.declared.fault.UpdateFault.{UpdateFault}
use Rattle.rs_types.specs.declared.fault.UpdateFault.TheVariants.{MalformedAttributeList, UnrecognizedWellKnown, AttributeFlags}
use Rattle.rs_types.specs.declared.fault.UpdateFault.TheVariants.{AttributeLength, InvalidOrigin, InvalidNextHop, MalformedAsPath}
use Rattle.rs_types.specs.AttributeType.{type_of, flags_of, suits}
use Rattle.rs_types.specs.Numbers.{numbers_at}
use Rattle.rs_types.specs.Parts.{parts_within}
use Rattle.rs_types.specs.PathSegments.{segment_at}
use Rattle.rs_types.specs.Section.{Item, SpellsItem, item_at, items_of, rest_of, suits_length, is_origin, is_next_hop, fault_behind}
use Rattle.rs_types.specs.Section.{first_item_fault, section_fault, AreFaultless, IsFirstAtFault}
use Rattle.rs_update.proofs.section.FirstFaultLemmas.{nothing_before}

-- ---- the first fault of a section

-- ORIGIN, AS_PATH and NEXT_HOP
abbrev pub mandatory : List ℕ
mandatory = 0x40 ∷ 0x01 ∷ 0x01 ∷ 0x00 ∷ 0x40 ∷ 0x02 ∷ 0x06 ∷ 0x02 ∷ 0x01 ∷ 0x00 ∷ 0x00 ∷ 0xFB ∷ 0xF5 ∷ 0x40 ∷ 0x03 ∷ 0x04 ∷ 0xC0 ∷ 0x00
    ∷ 0x02 ∷ 0x0B ∷ []

abbrev sections : List (List ℕ × Option UpdateFault)
sections =
    (mandatory, None)
    ∷ ([], None)
    ∷ (mandatory ++ 0x80 ∷ 0x04 ∷ 0x04 ∷ 0x00 ∷ 0x00 ∷ 0x00 ∷ 0x07 ∷ [], None)  -- a MED
    ∷ (mandatory ++ 0xC0 ∷ 0x04 ∷ 0x04 ∷ 0x00 ∷ 0x00 ∷ 0x00 ∷ 0x07 ∷ [], Some AttributeFlags)  -- a transitive MED
    ∷ (mandatory ++ 0x80 ∷ 0x04 ∷ 0x03 ∷ 0x00 ∷ 0x00 ∷ 0x07 ∷ [], Some AttributeLength)  -- a MED of three octets
    ∷ (mandatory ++ 0xC0 ∷ 0x08 ∷ 0x00 ∷ [], Some AttributeLength)  -- no community
    ∷ (mandatory ++ 0x40 ∷ 0x05 ∷ 0x02 ∷ 0x00 ∷ 0x00 ∷ [], None)  -- LOCAL_PREF of any length
    ∷ (mandatory ++ 0x80 ∷ 0x0E ∷ 0x01 ∷ 0x00 ∷ [], None)  -- MP_REACH_NLRI with any flags
    ∷ (0x80 ∷ 0x0F ∷ 0x03 ∷ 0x00 ∷ 0x02 ∷ 0x01 ∷ [], None)  -- MP_UNREACH_NLRI alone
    ∷ (mandatory ++ 0x80 ∷ 0x20 ∷ 0x01 ∷ 0x00 ∷ [], None)  -- an unrecognized attribute that isn't transitive
    ∷ (mandatory ++ 0xE0 ∷ 0x20 ∷ 0x01 ∷ 0x00 ∷ [], None)  -- one that is
    ∷ (mandatory ++ 0x40 ∷ 0x06 ∷ 0x01 ∷ 0x01 ∷ [], Some AttributeLength)  -- ATOMIC_AGGREGATE with a value
    ∷ (0x40 ∷ 0x01 ∷ 0x01 ∷ 0x00 ∷ 0x40 ∷ 0x02 ∷ 0x00 ∷ 0x40 ∷ 0x03 ∷ 0x04 ∷ 0xC0 ∷ 0x00 ∷ 0x02 ∷ 0x0B ∷ [], None)  -- an empty AS_PATH
    ∷ (
      0x40 ∷ 0x01 ∷ 0x01 ∷ 0x00 ∷ 0x40 ∷ 0x02 ∷ 0x06 ∷ 0x02 ∷ 0x02 ∷ 0x00 ∷ 0x00 ∷ 0xFB ∷ 0xF5 ∷ 0x40 ∷ 0x03 ∷ 0x04 ∷ 0xC0 ∷ 0x00 ∷ 0x02
          ∷ 0x0B ∷ [],
      Some MalformedAsPath,
    )  -- a segment past its value
    ∷ (
      0x40 ∷ 0x01 ∷ 0x01 ∷ 0x00 ∷ 0x40 ∷ 0x02 ∷ 0x02 ∷ 0x02 ∷ 0x00 ∷ 0x00 ∷ 0x40 ∷ 0x03 ∷ 0x04 ∷ 0xC0 ∷ 0x00 ∷ 0x02 ∷ 0x0B ∷ [],
      Some MalformedAsPath,
    )  -- a segment of count 0
    ∷ (0x40 ∷ 0x02 ∷ 0x06 ∷ 0x03 ∷ 0x01 ∷ 0x00 ∷ 0x00 ∷ 0xFB ∷ 0xF5 ∷ [], Some MalformedAsPath)  -- a segment of a confederation
    ∷ (0x40 ∷ 0x63 ∷ 0x01 ∷ 0x00 ∷ 0x40 ∷ 0x01 ∷ 0x01 ∷ 0x03 ∷ [], Some UnrecognizedWellKnown)
    ∷ (0x40 ∷ 0x01 ∷ 0x01 ∷ 0x03 ∷ [], Some InvalidOrigin)
    ∷ (0x40 ∷ 0x01 ∷ 0x01 ∷ 0x00 ∷ 0x40 ∷ 0x01 ∷ 0x01 ∷ 0x03 ∷ [], Some MalformedAttributeList)  -- a type stood earlier
    ∷ (0x80 ∷ 0x20 ∷ 0x01 ∷ 0x00 ∷ 0x80 ∷ 0x20 ∷ 0x01 ∷ 0x00 ∷ [], Some MalformedAttributeList)  -- so did an unrecognized one
    ∷ (0x40 ∷ 0x03 ∷ 0x04 ∷ 0xE0 ∷ 0x00 ∷ 0x00 ∷ 0x01 ∷ [], Some InvalidNextHop)  -- from 224 on
    ∷ (0x40 ∷ 0x03 ∷ 0x04 ∷ 0xDF ∷ 0x00 ∷ 0x00 ∷ 0x01 ∷ [], None)
    ∷ (0x40 ∷ 0x03 ∷ 0x04 ∷ 0x00 ∷ 0x00 ∷ 0x00 ∷ 0x01 ∷ [], Some InvalidNextHop)
    ∷ (0x80 ∷ 0x01 ∷ 0x02 ∷ 0x00 ∷ 0x00 ∷ [], Some AttributeFlags)  -- flags before length
    ∷ (0x40 ∷ 0x01 ∷ 0x02 ∷ 0x03 ∷ 0x03 ∷ [], Some AttributeLength)  -- length before value
    ∷ (0x40 ∷ 0x01 ∷ 0x01 ∷ 0x00 ∷ 0x40 ∷ 0x03 ∷ [], Some MalformedAttributeList)  -- a length past the section
    ∷ (0x40 ∷ 0x01 ∷ 0x02 ∷ 0x00 ∷ [], Some MalformedAttributeList)  -- a value past the section
    ∷ (0x40 ∷ 0x01 ∷ 0x01 ∷ 0x03 ∷ 0x40 ∷ 0x03 ∷ [], Some InvalidOrigin)  -- a fault before octets that are left over
    ∷ (0x50 ∷ 0x01 ∷ 0x00 ∷ 0x01 ∷ 0x00 ∷ [], None)  -- Extended Length with a short value
    ∷ (0x4F ∷ 0x01 ∷ 0x01 ∷ 0x00 ∷ [], None)  -- the low bits of the flags
    ∷ []

pub first_faults : map (λ row. section_fault row.0) sections ≡ map (λ row. row.1) sections
unfolding parts_within item_at first_item_fault segment_at numbers_at
first_faults = refl

-- ---- one attribute, and a section of them

-- ORIGIN of a code
abbrev origin : ℕ → Item
origin code = record { flags = 0x40; kind = 1; value = code ∷ [] }

-- an unrecognized one
abbrev other : ℕ → Item
other kind = record { flags = 0x80; kind = kind; value = 0 ∷ [] }

-- two attributes and octets left over
abbrev two_and_a_rest : List ℕ
two_and_a_rest = 0x40 ∷ 0x01 ∷ 0x01 ∷ 0x00 ∷ 0x80 ∷ 0x0F ∷ 0x03 ∷ 0x00 ∷ 0x02 ∷ 0x01 ∷ 0x40 ∷ 0x03 ∷ []

pub what_is_read :
    (item_at (0x40 ∷ 0x01 ∷ 0x01 ∷ 0x00 ∷ 0x40 ∷ 0x03 ∷ []) ≡ Some (origin 0, 0x40 ∷ 0x03 ∷ []))
    × (item_at (0x50 ∷ 0x01 ∷ 0x00 ∷ 0x01 ∷ 0x00 ∷ []) ≡ Some (record { flags = 0x50; kind = 1; value = 0 ∷ [] }, []))
    × (item_at (0x40 ∷ 0x01 ∷ 0x02 ∷ 0x00 ∷ []) ≡ None)  -- without its value
    × (item_at (0x50 ∷ 0x01 ∷ 0x00 ∷ []) ≡ None)  -- without its length
    × (items_of two_and_a_rest ≡ origin 0 ∷ record { flags = 0x80; kind = 15; value = 0 ∷ 2 ∷ 1 ∷ [] } ∷ [])
    × (rest_of two_and_a_rest ≡ 0x40 ∷ 0x03 ∷ [])
    × (rest_of (0x40 ∷ 0x01 ∷ 0x01 ∷ 0x00 ∷ []) ≡ [])
unfolding parts_within item_at
what_is_read = (refl, refl, refl, refl, refl, refl, refl)

pub an_attribute_is_spelled : SpellsItem (0x40 ∷ 0x01 ∷ 0x01 ∷ 0x00 ∷ []) (origin 0)
an_attribute_is_spelled = (refl, lit< tt)

pub rows_of_types :
    (type_of 4 ≡ MultiExitDisc) × (type_of 17 ≡ As4Path) × (type_of 9 ≡ Unrecognized) × (flags_of Origin ≡ WellKnown)
    × (suits (flags_of MultiExitDisc) 0x80 ≡ true) × (suits (flags_of MultiExitDisc) 0xC0 ≡ false)
    × (suits (flags_of Communities) 0xE0 ≡ true)  -- the Partial bit is not looked at
    × (suits_length Communities 8 ≡ true) × (suits_length Communities 0 ≡ false) × (suits_length Communities 6 ≡ false)
rows_of_types = (refl, refl, refl, refl, refl, refl, refl, refl, refl, refl)

pub values :
    (is_origin (2 ∷ []) ≡ true) × (is_origin (3 ∷ []) ≡ false)
    × (is_next_hop (0x7F ∷ 0x00 ∷ 0x00 ∷ 0x01 ∷ []) ≡ true) × (is_next_hop (0xE0 ∷ 0x00 ∷ 0x00 ∷ 0x01 ∷ []) ≡ false)
values = (refl, refl, refl, refl)

-- an attribute at fault by itself, behind one of its type and behind one of another type
pub behind_another :
    (fault_behind (other 32 ∷ []) (record { flags = 0x40; kind = 32; value = [] }) ≡ Some MalformedAttributeList)
    × (fault_behind (other 33 ∷ []) (record { flags = 0x40; kind = 32; value = [] }) ≡ Some UnrecognizedWellKnown)
behind_another = (refl, refl)

-- ---- what must not hold

pub other_octets_spell_another : SpellsItem (0x40 ∷ 0x01 ∷ 0x01 ∷ 0x01 ∷ []) (origin 0) → ⊥
other_octets_spell_another spells = let e = spells.0 in cc

pub an_attribute_at_fault_is_not_faultless : AreFaultless (origin 3 ∷ []) → ⊥
an_attribute_at_fault_is_not_faultless all = let none = all [] (origin 3) [] refl in cc

pub first_at_fault : IsFirstAtFault (origin 3 ∷ origin 0 ∷ []) InvalidOrigin
first_at_fault = ([], origin 3, origin 0 ∷ [], refl, refl, λ before item after e. absurd (nothing_before before item after e))
