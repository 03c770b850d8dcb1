-- Attributes by their values, at their places in a written form (RFC 4271, sections 4.3 and 5; RFC 6793; RFC 1997).
use Rattle.std.specs.Prelude.{ℕ, List, map, filter}
use Rattle.rs_types.specs.declared.as_path.SegmentView.{SegmentView}
use Rattle.rs_types.specs.declared.as_path.SegmentView.TheVariants.{Set, Sequence}
use Rattle.rs_types.specs.declared.as_path.Segments.{Segments}
use Rattle.rs_types.specs.declared.attributes.Communities.{Communities}
use Rattle.rs_types.specs.declared.attributes.Others.{Others}
use Rattle.rs_types.specs.declared.attributes.Unrecognized.{Unrecognized}
use Rattle.rs_types.specs.declared.number_list.Numbers.{Numbers}
use Rattle.rs_types.specs.Gathered.{is_passed_on, passed_on_of}
use Rattle.rs_types.specs.Numbers.{numbers_at}
use Rattle.rs_types.specs.PathAttributes.{PathSegment, AsSet, AsSequence, CommunityList, PassedOn}
use Rattle.rs_types.specs.PathSegments.{segments_of}
use Rattle.rs_types.specs.Section.{items_of}

abbrev pub numbers_in : Numbers → List ℕ
numbers_in numbers = numbers_at numbers.count numbers.octets.now

abbrev pub segment_in : SegmentView → PathSegment
segment_in (Set numbers) = AsSet (numbers_in numbers)
segment_in (Sequence numbers) = AsSequence (numbers_in numbers)

abbrev pub segments_in : Segments → List PathSegment
segments_in segments = (segments_of segments.octets.now).0

abbrev pub communities_of : Communities → CommunityList
communities_of list = record { partial = list.partial; values = numbers_in list.values }

abbrev pub other_of : Unrecognized → PassedOn
other_of attribute = record { kind = attribute.kind; value = attribute.value.now }

-- the attributes of a section that are passed on, in the order of the section
abbrev pub passed_on_from : List ℕ → List PassedOn
passed_on_from section = map passed_on_of (filter is_passed_on (items_of section))

abbrev pub others_in : Others → List PassedOn
others_in others = passed_on_from others.octets.now
