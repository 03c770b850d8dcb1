-- The attributes that a section gives a route. Each attribute is looked up by its type, wherever it stands (RFC
-- 4271, section 5; RFC 6793; RFC 1997).
use Rattle.std.specs.Prelude.{ℕ, ◌/◌, Bool, ◌&&◌, ◌==◌, List, length, drop, slice_index, Option, Some, None, is_some}
use Rattle.std.specs.Prelude.{unwrap_or, find, option_and_then, if◌then◌else◌}
use Rattle.std.specs.List.{filter_map, range_with_len}
use Rattle.std.specs.Option.{option_map}
use Rattle.byteorder.specs.Endian.{big_number}
use Rattle.rs_types.specs.declared.values.Origin.{Origin}
use Rattle.rs_types.specs.declared.values.Origin.TheVariants.{Incomplete}
use Rattle.rs_types.specs.declared.values.Aggregator.{Aggregator}
use Rattle.rs_types.specs.AttributeType.{type_of, is_unrecognized, is_transitive, is_partial}
use Rattle.rs_types.specs.Numbers.{numbers_at}
use Rattle.rs_types.specs.PathAttributes.{PathAttributes, CommunityList, PassedOn}
use Rattle.rs_types.specs.PathSegments.{segments_of}
use Rattle.rs_types.specs.Section.{Item, origin_of}

-- the first attribute of a type
abbrev pub look : ℕ → List Item → Option Item
look kind items = find (λ item. item.kind == kind) items

-- the ORIGIN that has a code (section 4.3)
abbrev pub origin_with : ℕ → Origin
origin_with code = unwrap_or (origin_of code) Incomplete

-- AGGREGATOR: the AS number, the address, and the Partial bit
abbrev pub aggregator_of : Item → Aggregator
aggregator_of item =
    record {
      asn = big_number 4 item.value;
      address = big_number 4 (drop 4 item.value);
      partial = is_partial item.flags;
    }

-- COMMUNITIES: its values, and the Partial bit
abbrev pub community_list_of : Item → CommunityList
community_list_of item =
    record { partial = is_partial item.flags; values = numbers_at (length item.value / 4) item.value }

-- an unrecognized attribute is passed on if it is transitive (section 5)
abbrev pub is_passed_on : Item → Bool
is_passed_on item = is_unrecognized (type_of item.kind) && is_transitive item.flags

abbrev pub passed_on_of : Item → PassedOn
passed_on_of item = record { kind = item.kind; value = item.value }

-- the unrecognized attribute of a type, if a section has one and it is transitive; below, all such attributes in
-- ascending type
abbrev pub passed_on_in : List Item → ℕ → Option PassedOn
passed_on_in items kind =
    option_and_then (λ item. if is_passed_on item then Some (passed_on_of item) else None) (look kind items)

-- all unrecognized attributes that are passed on, in ascending type
unfoldable pub others_of : List Item → List PassedOn
others_of items = filter_map (passed_on_in items) (range_with_len 0 256)

-- the attributes of a route whose mandatory attributes ORIGIN, AS_PATH and NEXT_HOP are these
abbrev pub attributes_from : List Item → Item → Item → Item → PathAttributes
attributes_from items origin path next_hop = record {
  origin = origin_with (slice_index origin.value 0);
  path = (segments_of path.value).0;
  next_hop = big_number 4 next_hop.value;
  med = option_map (λ item. big_number 4 item.value) (look 4 items);
  atomic = is_some (look 6 items);
  aggregator = option_map aggregator_of (look 7 items);
  communities = option_map community_list_of (look 8 items);
  others = others_of items;
}

-- the attributes that a section gives a route; None if ORIGIN, AS_PATH or NEXT_HOP is missing (section 6.3)
unfoldable pub attributes_of : List Item → Option PathAttributes
attributes_of items =
    option_and_then (λ origin. option_and_then
    (λ path. option_map (attributes_from items origin path) (look 3 items)) (look 2 items)) (look 1 items)
