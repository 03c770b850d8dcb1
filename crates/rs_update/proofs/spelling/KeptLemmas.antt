-- What is written of the attributes of a section without fault has the values that were received: for WholeLemmas.
use Rattle.std.proofs.Common.{◌≡◌, ℕ, ◌<◌, ◌==◌, true, List, [], ◌∷◌, ◌++◌, length, take, drop, Option, Some, None, refl, sym, ap, ◌∙◌}
use Rattle.std.proofs.Common.{arith, inl, inr}
use Rattle.std.specs.Prelude.{find, option_and_then, is_some, slice_index, if◌then◌else◌}
use Rattle.std.specs.List.{filter_map, range_with_len, flat_map}
use Rattle.std.specs.Option.{option_map}
use Rattle.std.proofs.lemmas.Bool.{eqb-true}
use Rattle.std.proofs.lemmas.Bool.Decides.{nat_tests}
use Rattle.std.proofs.lemmas.List.{take-append-drop, take_all, length-drop, append-nil, nil_from_length}
use Rattle.byteorder.specs.Endian.{big_number, big_bytes}
use Rattle.rs_types.specs.declared.attribute_type.AttributeType.{AttributeType}
use Rattle.rs_types.specs.declared.attribute_type.AttributeType.TheVariants as types
use Rattle.rs_types.specs.AttributeType.{type_of, is_partial}
use Rattle.rs_update.specs.Found.{kept_as, kept_in}
use Rattle.rs_types.specs.Gathered.{look, origin_with, aggregator_of, community_list_of, passed_on_in, others_of, attributes_from}
use Rattle.rs_types.specs.Parts.{AreOctets}
use Rattle.rs_types.specs.PathAttributes.{PathAttributes, PassedOn}
use Rattle.rs_types.specs.PathSegments.{segments_of, spelled_segment}
use Rattle.rs_types.specs.Section.{Item, is_origin, is_path}
use Rattle.rs_types.specs.Spelling.{well_known, optional_non_transitive, optional_transitive, aggregator_item, communities_item}
use Rattle.rs_types.specs.Spelling.{origin_code, passed_on_item, written_item, written_items}
use Rattle.rs_types.proofs.section.KindLemmas.{cases_Option, find-made, range-any, All-range, filter_map-same, passed_on_kind}
use Rattle.rs_types.proofs.fields.OctetLemmas.{big_bytes-big_number}
use Rattle.rs_types.proofs.fields.PartsLemmas.{AreOctets-drop}
use Rattle.rs_types.proofs.fields.SegmentLemmas.{spelled_numbers-all}
use Rattle.rs_types.proofs.section.ReceivedLemmas.{value-is_spelled}
use Rattle.rs_types.proofs.section.SoundLemmas.{AreSound, IsSound, look_sound, origin_value, path_value, communities_value, exact_value}

-- ---- the values

code_again : (value : List ℕ) → is_origin value ≡ true → origin_code (origin_with (slice_index value 0)) ∷ [] ≡ value
code_again value known = grind (arith, nat_tests)

path_again : (value : List ℕ) → AreOctets value → is_path value ≡ true → flat_map spelled_segment (segments_of value).0 ≡ value
path_again value fit path =
    let none : (segments_of value).1 ≡ [] = nil_from_length _ (eqb-true _ _ path) in
    sym (append-nil (flat_map spelled_segment (segments_of value).0))
    ∙ ap (λ (rest : List ℕ). flat_map spelled_segment (segments_of value).0 ++ rest) (sym none) ∙ value-is_spelled value fit

number_again : (value : List ℕ) → AreOctets value → length value ≡ 4 → big_bytes 4 (big_number 4 value) ≡ value
number_again value fit size = big_bytes-big_number value (omega arith) fit ∙ take_all 4 value (omega arith)

two_numbers_again : (value : List ℕ) → AreOctets value → length value ≡ 8
    → big_bytes 4 (big_number 4 value) ++ big_bytes 4 (big_number 4 (drop 4 value)) ≡ value
two_numbers_again value fit size =
    let first = big_bytes-big_number value (omega arith) fit in
    let second = number_again (drop 4 value) (AreOctets-drop 4 value fit) (omega (arith, length-drop 4 value)) in
    ap (λ (front : List ℕ). front ++ big_bytes 4 (big_number 4 (drop 4 value))) first
    ∙ ap (λ (behind : List ℕ). take 4 value ++ behind) second ∙ take-append-drop 4 value

-- ---- what is written of each type

nothing_kept : (found : Option Item) (make : Item → Option Item) → ((item : Item) → make item ≡ None) → None ≡ option_and_then make found
nothing_kept found make none = grind (arith, none)

-- an attribute of the number and the value that were received
value_as_received : (make : ℕ → List ℕ → Item) (kind : ℕ) (item : Item) (value : List ℕ) → item.kind ≡ kind → value ≡ item.value
    → Some (make kind value) ≡ Some (make item.kind item.value)
value_as_received make kind item value same again =
    ap (λ (v : List ℕ). Some (make kind v)) again ∙ ap (λ (k : ℕ). Some (make k item.value)) (sym same)

module _ (items : List Item) (sound : AreSound items) (origin path next_hop : Item) (has_origin : look 1 items ≡ Some origin)
    (has_path : look 2 items ≡ Some path) (has_next_hop : look 3 items ≡ Some next_hop) where
  abbrev the_attributes : PathAttributes
  the_attributes = attributes_from items origin path next_hop

  written_origin : written_item the_attributes 1 types.Origin ≡ option_and_then (kept_as types.Origin) (look 1 items)
  written_origin =
      let is = look_sound items 1 origin sound has_origin in
      let value = code_again origin.value (origin_value origin is) in
      let kind = is.has_kind in
      rw has_origin (ap (λ (v : List ℕ). Some (well_known 1 v)) value ∙ ap (λ (k : ℕ). Some (well_known k origin.value)) (sym kind))

  written_path : written_item the_attributes 2 types.AsPath ≡ option_and_then (kept_as types.AsPath) (look 2 items)
  written_path =
      let is = look_sound items 2 path sound has_path in
      let value = path_again path.value is.received.value_octets (path_value path is) in
      let kind = is.has_kind in
      rw (has_path, value, kind) refl

  written_next_hop : written_item the_attributes 3 types.NextHop ≡ option_and_then (kept_as types.NextHop) (look 3 items)
  written_next_hop =
      let is = look_sound items 3 next_hop sound has_next_hop in
      let value = number_again next_hop.value is.received.value_octets (exact_value 3 4 next_hop refl is.tests) in
      let kind = is.has_kind in
      rw has_next_hop (ap (λ (v : List ℕ). Some (well_known 3 v)) value ∙ ap (λ (k : ℕ). Some (well_known k next_hop.value)) (sym kind))

  -- one that may be missing is written where it was received
  written_found : (kind : ℕ) (type : AttributeType) (write : Option Item → Option Item) → write None ≡ None
      → ((item : Item) → IsSound kind item → write (Some item) ≡ kept_as type item)
      → write (look kind items) ≡ option_and_then (kept_as type) (look kind items)
  written_found kind type write nothing one =
      elim (cases_Option (look kind items)) [
        | inl none ↦ ap write none ∙ nothing ∙ ap (option_and_then (kept_as type)) (sym none)
        | inr some ↦ ap write some.1 ∙ one some.0 (look_sound items kind some.0 sound some.1)
            ∙ ap (option_and_then (kept_as type)) (sym some.1)
      ]

  written_med : written_item the_attributes 4 types.MultiExitDisc ≡ option_and_then (kept_as types.MultiExitDisc) (look 4 items)
  written_med =
      written_found 4 types.MultiExitDisc (λ found. option_map (λ med. optional_non_transitive 4 (big_bytes 4 med))
      (option_map (λ (item : Item). big_number 4 item.value) found)) refl
      (λ item is. value_as_received optional_non_transitive 4 item _ is.has_kind
      (number_again item.value is.received.value_octets (exact_value 4 4 item refl is.tests)))

  written_atomic : written_item the_attributes 6 types.AtomicAggregate ≡ option_and_then (kept_as types.AtomicAggregate) (look 6 items)
  written_atomic =
      written_found 6 types.AtomicAggregate (λ found. if is_some found then Some (well_known 6 []) else None) refl
      (λ item is. value_as_received well_known 6 item [] is.has_kind
      (sym (nil_from_length item.value (exact_value 6 0 item refl is.tests))))

  written_aggregator : written_item the_attributes 7 types.Aggregator ≡ option_and_then (kept_as types.Aggregator) (look 7 items)
  written_aggregator =
      written_found 7 types.Aggregator (λ found. option_map (aggregator_item 7) (option_map aggregator_of found)) refl
      (λ item is. value_as_received (optional_transitive (is_partial item.flags)) 7 item _ is.has_kind
      (two_numbers_again item.value is.received.value_octets (exact_value 7 8 item refl is.tests)))

  written_communities : written_item the_attributes 8 types.Communities ≡ option_and_then (kept_as types.Communities) (look 8 items)
  written_communities =
      written_found 8 types.Communities (λ found. option_map (communities_item 8) (option_map community_list_of found)) refl
      (λ item is. value_as_received (optional_transitive (is_partial item.flags)) 8 item _ is.has_kind
      (spelled_numbers-all item.value (communities_value item is) is.received.value_octets))

  -- an attribute that is passed on
  passed_again : (kind : ℕ) → type_of kind ≡ types.Unrecognized
      → option_map passed_on_item (passed_on_in items kind) ≡ option_and_then (kept_as types.Unrecognized) (look kind items)
  passed_again kind unknown =
      let has : (item : Item) → look kind items ≡ Some item → item.kind ≡ kind = λ item e. (look_sound items kind item sound e).has_kind in
      grind (arith, has)

  written_other : (kind : ℕ) → kind < 256 → type_of kind ≡ types.Unrecognized
      → written_item the_attributes kind types.Unrecognized ≡ option_and_then (kept_as types.Unrecognized) (look kind items)
  unfolding others_of
  written_other kind octet unknown =
      let made : find (λ other. other.kind == kind) (filter_map (passed_on_in items) (range_with_len 0 256)) ≡ passed_on_in items kind =
      find-made (λ (other : PassedOn). other.kind) (passed_on_in items) (passed_on_kind items) kind (range_with_len 0 256)
      (range-any 0 256 kind (omega arith) (omega arith)) in
      ap (option_map passed_on_item) made ∙ passed_again kind unknown

  written_as : (type : AttributeType) (kind : ℕ) → kind < 256 → type_of kind ≡ type
      → written_item the_attributes kind type ≡ option_and_then (kept_as type) (look kind items)
  written_as types.Origin kind octet is = let k : kind ≡ 1 = grind (arith, nat_tests) in rw k written_origin
  written_as types.AsPath kind octet is = let k : kind ≡ 2 = grind (arith, nat_tests) in rw k written_path
  written_as types.NextHop kind octet is = let k : kind ≡ 3 = grind (arith, nat_tests) in rw k written_next_hop
  written_as types.MultiExitDisc kind octet is = let k : kind ≡ 4 = grind (arith, nat_tests) in rw k written_med
  written_as types.LocalPref kind octet is = nothing_kept (look kind items) (kept_as types.LocalPref) (λ item. refl)
  written_as types.AtomicAggregate kind octet is = let k : kind ≡ 6 = grind (arith, nat_tests) in rw k written_atomic
  written_as types.Aggregator kind octet is = let k : kind ≡ 7 = grind (arith, nat_tests) in rw k written_aggregator
  written_as types.Communities kind octet is = let k : kind ≡ 8 = grind (arith, nat_tests) in rw k written_communities
  written_as types.MpReachNlri kind octet is = nothing_kept (look kind items) (kept_as types.MpReachNlri) (λ item. refl)
  written_as types.MpUnreachNlri kind octet is = nothing_kept (look kind items) (kept_as types.MpUnreachNlri) (λ item. refl)
  written_as types.As4Path kind octet is = nothing_kept (look kind items) (kept_as types.As4Path) (λ item. refl)
  written_as types.As4Aggregator kind octet is = nothing_kept (look kind items) (kept_as types.As4Aggregator) (λ item. refl)
  written_as types.Unrecognized kind octet is = written_other kind octet is

  -- each with its own type
  pub written_kept : (kind : ℕ) → kind < 256 → written_item the_attributes kind (type_of kind) ≡ kept_in items kind
  written_kept kind octet =
      written_as (type_of kind) kind octet refl
      ∙ elim (cases_Option (look kind items)) [
        | inl none ↦ rw none refl
        | inr some ↦
            let same : type_of kind ≡ type_of some.0.kind = ap type_of (sym (look_sound items kind some.0 sound some.1).has_kind) in
            rw some.1 (ap (λ (type : AttributeType). kept_as type some.0) same)
      ]

  pub written_items-kept : written_items the_attributes ≡ filter_map (kept_in items) (range_with_len 0 256)
  unfolding written_items
  written_items-kept =
      filter_map-same (λ kind. written_item the_attributes kind (type_of kind)) (kept_in items) (range_with_len 0 256)
      (All-range (λ kind. written_item the_attributes kind (type_of kind) ≡ kept_in items kind) 0 256 256 refl
      (λ kind le lt. written_kept kind lt))
