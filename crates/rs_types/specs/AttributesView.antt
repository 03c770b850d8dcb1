-- The attributes of a route as callers see them: each attribute is read from the written form (RFC 4271, sections
-- 4.3 and 5; RFC 6793; RFC 1997).
use Rattle.std.specs.Prelude.{◌≡◌, ℕ, ◌<◌, ◌≤◌, List, [], length, drop, slice_index, Option, Some, None}
use Rattle.std.specs.Prelude.{is_some, unwrap_or}
use Rattle.std.specs.Option.{option_map}
use Rattle.byteorder.specs.Endian.{big_number}
use Rattle.rs_types.specs.declared.attributes.Attributes.TheInside.{Inside}
use Rattle.rs_types.specs.PathAttributes.{PathAttributes}
use Rattle.rs_types.specs.AsPath.{path_length_of, first_as_of}
use Rattle.rs_types.specs.Gathered.{look, origin_with, aggregator_of, community_list_of, attributes_of}
use Rattle.rs_types.specs.PathSegments.{segments_of}
use Rattle.rs_types.specs.Section.{Item, item_at, items_of, section_fault}
use Rattle.rs_types.specs.Shapes.{passed_on_from}
use Rattle.rs_types.specs.Spelling.{written}

-- the attribute that begins at an offset of a section
abbrev pub item_from : List ℕ → ℕ → Option Item
item_from section place = option_map (λ split. split.0) (item_at (drop place section))

-- the value of an attribute; it is empty if there is no such attribute
abbrev pub value_of : Option Item → List ℕ
value_of None = []
value_of (Some item) = item.value

-- The attributes of a written form: each known attribute is looked up by its type. Attributes that are passed on
-- unrecognized are in the order of the written form.
abbrev pub looked_up_in : List ℕ → PathAttributes
looked_up_in section = record {
  origin = origin_with (slice_index (value_of (look 1 (items_of section))) 0);
  path = (segments_of (value_of (look 2 (items_of section)))).0;
  next_hop = big_number 4 (value_of (look 3 (items_of section)));
  med = option_map (λ item. big_number 4 item.value) (look 4 (items_of section));
  atomic = is_some (look 6 (items_of section));
  aggregator = option_map aggregator_of (look 7 (items_of section));
  communities = option_map community_list_of (look 8 (items_of section));
  others = passed_on_from section;
}

abbrev pub view_of : Inside → PathAttributes
view_of fields = looked_up_in fields.spelling.items

-- The written form is a section without fault. It fits a message, and its AS_PATH does as well. The values that are
-- kept next to the written form agree with it.
pub record IsWhole (fields : Inside) : Type 0 where
  pub is_faultless : section_fault fields.spelling.items ≡ None
  pub fits_a_message : length fields.spelling.items ≤ 4073
  pub says_the_attributes : attributes_of (items_of fields.spelling.items) ≡ Some (view_of fields)
  pub is_written : fields.spelling.items ≡ written (view_of fields)
  pub path_fits : path_length_of (view_of fields).path < 65536
  pub origin_agrees : fields.origin ≡ (view_of fields).origin
  pub med_agrees : fields.compared_med ≡ unwrap_or (view_of fields).med 0
  pub neighbour_agrees : fields.neighbour ≡ first_as_of (view_of fields).path
  pub communities_stand_there : item_from fields.spelling.items fields.communities_place
      ≡ look 8 (items_of fields.spelling.items)
