-- The written form of a route's attributes (RFC 4271, section 4.3; RFC 6396, section 4.3.4).
use Rattle.std.specs.Prelude.{ℕ, ◌+◌, Bool, true, nat_lt, ◌==◌, List, [], ◌∷◌, ◌++◌, length, Option, Some, None, find}
use Rattle.std.specs.Prelude.{if◌then◌else◌}
use Rattle.std.specs.List.{flat_map, filter_map, range_with_len}
use Rattle.std.specs.Option.{option_map}
use Rattle.byteorder.specs.Endian.{big_bytes}
use Rattle.rs_types.specs.declared.values.Origin.{Origin}
use Rattle.rs_types.specs.declared.values.Origin.TheVariants.{Igp, Egp, Incomplete}
use Rattle.rs_types.specs.declared.values.Aggregator.{Aggregator}
use Rattle.rs_types.specs.declared.attribute_type.AttributeType.{AttributeType}
use Rattle.rs_types.specs.declared.attribute_type.AttributeType.TheVariants as types
use Rattle.rs_types.specs.AttributeType.{type_of}
use Rattle.rs_types.specs.PathAttributes.{PathAttributes, CommunityList, PassedOn}
use Rattle.rs_types.specs.PathSegments.{spelled_segment, spelled_numbers}
use Rattle.rs_types.specs.Section.{Item, spelled_length}

-- the flags as written: the low four bits are 0, and Extended Length is set exactly if the value is longer than 255
-- octets
abbrev pub written_flags : ℕ → List ℕ → ℕ
written_flags flags value = if nat_lt 255 (length value) then flags + 0x10 else flags

-- a well-known attribute: its Transitive bit is set
abbrev pub well_known : ℕ → List ℕ → Item
well_known kind value = record { flags = written_flags 0x40 value; kind = kind; value = value }

abbrev pub optional_non_transitive : ℕ → List ℕ → Item
optional_non_transitive kind value = record { flags = written_flags 0x80 value; kind = kind; value = value }

-- an optional transitive attribute, with the Partial bit as it was received
abbrev pub optional_transitive : Bool → ℕ → List ℕ → Item
optional_transitive partial kind value =
    record { flags = written_flags (if partial then 0xE0 else 0xC0) value; kind = kind; value = value }

-- the code of an ORIGIN
abbrev pub origin_code : Origin → ℕ
origin_code Igp = 0
origin_code Egp = 1
origin_code Incomplete = 2

abbrev pub aggregator_item : ℕ → Aggregator → Item
aggregator_item kind aggregator =
    optional_transitive aggregator.partial kind (big_bytes 4 aggregator.asn ++ big_bytes 4 aggregator.address)

abbrev pub communities_item : ℕ → CommunityList → Item
communities_item kind list = optional_transitive list.partial kind (spelled_numbers list.values)

-- an unrecognized attribute is passed on with its Partial bit set (section 5)
abbrev pub passed_on_item : PassedOn → Item
passed_on_item other = optional_transitive true other.kind other.value

-- the attribute that is written for a type: none if the route has no such attribute, or if the type is always
-- dropped
abbrev pub written_item : PathAttributes → ℕ → AttributeType → Option Item
written_item attributes kind types.Origin = Some (well_known kind (origin_code attributes.origin ∷ []))
written_item attributes kind types.AsPath = Some (well_known kind (flat_map spelled_segment attributes.path))
written_item attributes kind types.NextHop = Some (well_known kind (big_bytes 4 attributes.next_hop))
written_item attributes kind types.MultiExitDisc =
    option_map (λ med. optional_non_transitive kind (big_bytes 4 med)) attributes.med
written_item attributes kind types.AtomicAggregate = if attributes.atomic then Some (well_known kind []) else None
written_item attributes kind types.Aggregator = option_map (aggregator_item kind) attributes.aggregator
written_item attributes kind types.Communities = option_map (communities_item kind) attributes.communities
written_item attributes kind types.Unrecognized =
    option_map passed_on_item (find (λ other. other.kind == kind) attributes.others)
written_item attributes kind dropped = None

-- all attributes that are written, in ascending type
unfoldable pub written_items : PathAttributes → List Item
written_items attributes = filter_map (λ kind. written_item attributes kind (type_of kind)) (range_with_len 0 256)

-- the octets of an attribute
abbrev pub spelled_item : Item → List ℕ
spelled_item item = item.flags ∷ item.kind ∷ (spelled_length item ++ item.value)

-- the written form of a route's attributes
unfoldable pub written : PathAttributes → List ℕ
written attributes = flat_map spelled_item (written_items attributes)
