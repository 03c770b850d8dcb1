-- The attributes that were found in a section, and what is written of the section (RFC 4271, section 5).
use Rattle.std.specs.Prelude.{◌≡◌, ℕ, ◌+◌, ◌<◌, ◌≤◌, Bool, true, false, not, ◌&&◌, ◌==◌, List, [], length}
use Rattle.std.specs.Prelude.{slice_index_or, Option, Some, None, is_some, option_and_then, if◌then◌else◌}
use Rattle.std.specs.List.{filter_map, flat_map, range_with_len}
use Rattle.rs_types.specs.declared.attribute_type.AttributeType.{AttributeType}
use Rattle.rs_types.specs.declared.attribute_type.WantedFlags.{WantedFlags}
use Rattle.rs_types.specs.declared.attribute_type.WantedFlags.TheVariants.{WellKnown, OptionalNonTransitive}
use Rattle.rs_types.specs.declared.attribute_type.WantedFlags.TheVariants.{OptionalTransitive, Optional, Any}
use Rattle.rs_update.specs.declared.found.Found.{Found}
use Rattle.rs_types.specs.declared.item.Item.{Item as ItemThere}
use Rattle.rs_types.specs.AttributeType.{type_of, row_of, is_transitive, is_partial, is_extended}
use Rattle.rs_types.specs.AttributesView.{item_from}
use Rattle.rs_types.specs.Gathered.{look}
use Rattle.rs_types.specs.Section.{Item, items_of}
use Rattle.rs_types.specs.Spelling.{well_known, optional_non_transitive, optional_transitive, spelled_item}

-- an attribute of this type was found
abbrev pub stands : Found → ℕ → Bool
stands found kind = not (slice_index_or found.places.now kind 0 == 65535)

-- The attribute of each type begins at its place. A place at or behind the end says that no attribute has the type.
pub record AreFound (places : List ℕ) (end : ℕ) (section : List ℕ) : Type 0 where
  pub at_each : (kind : ℕ) → kind < 256
      → not (slice_index_or places kind 0 == 65535) ≡ is_some (look kind (items_of section))
  pub at_place : (kind : ℕ) → kind < 256
      → item_from section (slice_index_or places kind 0) ≡ look kind (items_of section)
  pub none_behind : (kind : ℕ) → end ≤ kind → look kind (items_of section) ≡ None
  pub end_fits : end ≤ 256

abbrev pub Finds : Found → List ℕ → Type 0
Finds found section = AreFound found.places.now found.end section

-- ORIGIN, AS_PATH and NEXT_HOP were found
abbrev pub has_mandatory : Found → Bool
has_mandatory found = stands found 1 && stands found 2 && stands found 3

-- The attribute that is written for an attribute received. A known attribute keeps its value. An unrecognized
-- attribute is passed on if it is transitive. An attribute whose flags are not tested is dropped.
abbrev pub kept_by : WantedFlags → Item → Option Item
kept_by WellKnown item = Some (well_known item.kind item.value)
kept_by OptionalNonTransitive item = Some (optional_non_transitive item.kind item.value)
kept_by OptionalTransitive item = Some (optional_transitive (is_partial item.flags) item.kind item.value)
kept_by Optional item = if is_transitive item.flags then Some (optional_transitive true item.kind item.value) else None
kept_by Any item = None

abbrev pub kept_as : AttributeType → Item → Option Item
kept_as kind item = kept_by (row_of kind).flags item

abbrev pub kept_of : Item → Option Item
kept_of item = kept_as (type_of item.kind) item

-- the attribute that is written for a type
abbrev pub kept_in : List Item → ℕ → Option Item
kept_in items kind = option_and_then kept_of (look kind items)

-- a section as it is written, its attributes in ascending type
abbrev pub spelled_section : List Item → List ℕ
spelled_section items = flat_map spelled_item (filter_map (kept_in items) (range_with_len 0 256))

-- the spelling of an attribute, empty if there is none
abbrev pub spelled_kept : Option Item → List ℕ
spelled_kept None = []
spelled_kept (Some item) = spelled_item item

-- the flags are octets without Extended Length
pub record IsPlain (flags : ℕ) : Type 0 where
  pub fits : flags + 0x10 < 256
  pub is_short : is_extended flags ≡ false
  pub may_be_long : is_extended (flags + 0x10) ≡ true

-- the value has a length that can be spelled
abbrev pub IsSpellable : ItemThere → Type 0
IsSpellable item = length item.value.now < 65536
