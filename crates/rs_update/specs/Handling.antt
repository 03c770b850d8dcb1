-- How RFC 7606 handles what is found in the path attributes of an UPDATE (sections 2, 3 and 7).
use Rattle.std.specs.Prelude.{ℕ, Bool, true, false, ◌==◌, List, [], ◌∷◌, ◌++◌, length, Option, Some, None}
use Rattle.std.specs.Prelude.{if◌then◌else◌}
use Rattle.std.specs.List.{flat_map}
use Rattle.rs_types.specs.declared.attribute_type.AttributeType.{AttributeType}
use Rattle.rs_types.specs.declared.fault.UpdateFault.{UpdateFault}
use Rattle.rs_types.specs.declared.fault.UpdateFault.TheVariants.{MalformedAttributeList, UnrecognizedWellKnown}
use Rattle.rs_types.specs.declared.fault.UpdateFault.TheVariants.{AttributeLength}
use Rattle.rs_types.specs.declared.handling.Handling.{Handling}
use Rattle.rs_types.specs.declared.handling.Handling.TheVariants.{Keep, AttributeDiscard, TreatAsWithdraw}
use Rattle.rs_types.specs.declared.handling.Handling.TheVariants.{SessionReset}
use Rattle.rs_types.specs.AttributeType.{type_of, row_of}
use Rattle.rs_types.specs.Section.{Item, has_type, items_of, rest_of, own_fault_of}
use Rattle.rs_types.specs.Spelling.{spelled_item}

-- the stronger of two: a reset of the session, then treat-as-withdraw, then attribute discard; of two resets the
-- first one
abbrev pub stronger : Handling → Handling → Handling
stronger Keep later = later
stronger AttributeDiscard Keep = AttributeDiscard
stronger AttributeDiscard later = later
stronger TreatAsWithdraw (SessionReset fault) = SessionReset fault
stronger TreatAsWithdraw later = TreatAsWithdraw
stronger (SessionReset fault) later = SessionReset fault

-- how an attribute is handled whose type stood earlier, even if the earlier attribute was discarded (section 3, g)
abbrev pub handling_again : AttributeType → Handling
handling_again kind = (row_of kind).again

-- The handling of an attribute by its own fault. An attribute that is not recognized but says that it is well-known
-- resets the session. A wrong length is handled as its type asks. All other faults are treated as withdrawals, even
-- if nothing is announced (our choice).
abbrev pub handling_of_fault : AttributeType → UpdateFault → Handling
handling_of_fault kind UnrecognizedWellKnown = SessionReset UnrecognizedWellKnown
handling_of_fault kind AttributeLength = (row_of kind).at_length
handling_of_fault kind fault = TreatAsWithdraw

-- the handling of an attribute by the first fault of its own tests, if there is one
abbrev pub handling_of_own : AttributeType → Option UpdateFault → Handling
handling_of_own kind None = Keep
handling_of_own kind (Some fault) = handling_of_fault kind fault

-- the handling of an attribute that stands behind others; if its type stood earlier, its own value is not tested
abbrev pub handling_behind : List Item → Item → Handling
handling_behind earlier item =
    if has_type item.kind earlier then handling_again (type_of item.kind)
    else handling_of_own (type_of item.kind) (own_fault_of item)

-- the strongest handling that attributes ask for, which stand behind others
unfoldable pub strongest_behind : List Item → List Item → Handling
strongest_behind earlier [] = Keep
strongest_behind earlier (item ∷ later) =
    stronger (handling_behind earlier item) (strongest_behind (earlier ++ item ∷ []) later)

-- octets that are left over reset the session (our choice)
abbrev pub handling_of_rest : List ℕ → Handling
handling_of_rest rest = if length rest == 0 then Keep else SessionReset MalformedAttributeList

-- the strongest handling that a section asks for
abbrev pub strongest_in : List ℕ → Handling
strongest_in section = stronger (strongest_behind [] (items_of section)) (handling_of_rest (rest_of section))

-- whether an attribute with this handling is kept
abbrev pub is_kept : Handling → Bool
is_kept Keep = true
is_kept handling = false

-- of attributes that stand behind others, the ones that are not discarded
unfoldable pub kept_behind : List Item → List Item → List Item
kept_behind earlier [] = []
kept_behind earlier (item ∷ later) =
    let kept = kept_behind (earlier ++ item ∷ []) later in
    if is_kept (handling_behind earlier item) then item ∷ kept else kept

-- the attributes of a section without those that are discarded
abbrev pub kept_of : List Item → List Item
kept_of items = kept_behind [] items

-- the attributes of a section that are not discarded, spelled as they were received
abbrev pub kept_section : List ℕ → List ℕ
kept_section section = flat_map spelled_item (kept_of (items_of section))
