-- What is written of the attributes of a section without fault is read as the same attributes.
-- For `what_is_written_reads_as_the_same_attributes` of laws.rt, and ViewLemmas.
use Rattle.std.proofs.Common.{◌≡◌, ℕ, ◌<◌, Bool, true, false, List, [], ◌∷◌, map, Option, Some, None, refl, sym, ap, ◌∙◌, arith, inl, inr}
use Rattle.std.specs.Prelude.{option_and_then, filter, is_some, if◌then◌else◌}
use Rattle.std.specs.List.{filter_map, range_with_len, flat_map, AllByRecursion}
use Rattle.std.specs.Option.{option_map}
use Rattle.std.proofs.lemmas.Bool.{cases_Bool}
use Rattle.byteorder.specs.Endian.{big_number}
use Rattle.rs_types.specs.declared.attribute_type.AttributeType.{AttributeType}
use Rattle.rs_types.specs.declared.attribute_type.AttributeType.TheVariants as types
use Rattle.rs_types.specs.declared.attribute_type.WantedFlags.{WantedFlags}
use Rattle.rs_types.specs.declared.attribute_type.WantedFlags.TheVariants.{WellKnown, OptionalNonTransitive, OptionalTransitive, Optional}
use Rattle.rs_types.specs.declared.attribute_type.WantedFlags.TheVariants.{Any}
use Rattle.rs_types.specs.declared.values.Aggregator.{Aggregator}
use Rattle.rs_types.specs.AttributeType.{type_of, row_of, is_unrecognized, is_partial}
use Rattle.rs_update.specs.Found.{kept_by, kept_as, kept_of, kept_in}
use Rattle.rs_types.specs.Gathered.{look, aggregator_of, community_list_of, is_passed_on, passed_on_of, passed_on_in, others_of}
use Rattle.rs_types.specs.Gathered.{attributes_from, attributes_of}
use Rattle.rs_update.specs.Laws.{WrittenIsRead}
use Rattle.rs_types.specs.Parts.{AreOctets, parts_of}
use Rattle.rs_types.specs.PathAttributes.{PathAttributes, CommunityList, PassedOn}
use Rattle.rs_types.specs.Section.{Item, FitsItsLength, item_at, items_of, rest_of, section_fault, first_item_fault}
use Rattle.rs_types.specs.Shapes.{passed_on_from}
use Rattle.rs_types.specs.Spelling.{well_known, optional_transitive, spelled_item, written}
use Rattle.rs_update.proofs.spelling.BoundLemmas.{written-shorter}
use Rattle.rs_types.proofs.section.KindLemmas.{cases_Option, All-range, filter_map-same, find-made, range-any}
use Rattle.rs_types.proofs.section.SoundLemmas.{AreSound, sound_section, look_sound}
use Rattle.rs_update.proofs.fields.SpelledParts.{items_of-spelled}
use Rattle.rs_types.proofs.section.LookLemmas.{made_of}
use Rattle.rs_update.proofs.gather.WholeLemmas.{All-filter_map, attributes_of-found, same_attributes, written-made}
use Rattle.rs_update.proofs.spelling.WrittenLemmas.{kept_written, written_partial, passed_on_transitive, ascending_without}

-- ---- values as they are written

partial_again : (item : Item) → aggregator_of (optional_transitive (is_partial item.flags) item.kind item.value) ≡ aggregator_of item
partial_again item = let same = written_partial (is_partial item.flags) item.value in cc

communities_again : (item : Item) → community_list_of (optional_transitive (is_partial item.flags) item.kind item.value)
    ≡ community_list_of item
communities_again item = let same = written_partial (is_partial item.flags) item.value in cc

-- what is passed on of an attribute
abbrev passes : Item → Option PassedOn
passes item = if is_passed_on item then Some (passed_on_of item) else None

unrecognized_is : (type : AttributeType) → is_unrecognized type ≡ true → type ≡ types.Unrecognized
unrecognized_is type unknown = grind arith

-- whatever the flags of a recognized type must say
recognized_again : (wanted : WantedFlags) (item : Item) → is_unrecognized (type_of item.kind) ≡ false
    → option_and_then passes (kept_by wanted item) ≡ passes item
recognized_again WellKnown item known = rw known refl
recognized_again OptionalNonTransitive item known = rw known refl
recognized_again OptionalTransitive item known = rw known refl
recognized_again Any item known = rw known refl
recognized_again Optional item known = grind arith

passes_again : (item : Item) → option_and_then passes (kept_of item) ≡ passes item
passes_again item =
    elim (cases_Bool (is_unrecognized (type_of item.kind))) [
      | inl unknown ↦ let again = passed_on_transitive item.value in let is : type_of item.kind ≡ types.Unrecognized =
          unrecognized_is _ unknown in grind arith
      | inr known ↦ recognized_again (row_of (type_of item.kind)).flags item known
    ]

passed-filter : (make : ℕ → Option Item) (kinds : List ℕ)
    → map passed_on_of (filter is_passed_on (filter_map make kinds)) ≡ filter_map (λ kind. option_and_then passes (make kind)) kinds
passed-filter make [] = refl
passed-filter make (kind ∷ kinds) = grind (arith, passed-filter make kinds)

-- ---- the attributes as they are written

module _ (items : List Item) (sound : AreSound items) where
  -- the attributes that are written
  pub again : List Item
  again = filter_map (kept_in items) (range_with_len 0 256)

  look_again : (kind : ℕ) → kind < 256 → look kind again ≡ kept_in items kind
  unfolding again
  look_again kind octet =
      find-made (λ (item : Item). item.kind) (kept_in items) (λ k item e. (kept_written items sound k item e).has_kind) kind
      (range_with_len 0 256) (range-any 0 256 kind (omega arith) (omega arith))

  -- one that was received and is kept
  kept_at : (type : AttributeType) (kind : ℕ) (item : Item) → type_of kind ≡ type → look kind items ≡ Some item
      → kept_in items kind ≡ kept_as type item
  kept_at type kind item is found =
      let same : type_of item.kind ≡ type = ap type_of (look_sound items kind item sound found).has_kind ∙ is in
      rw found (ap (λ (t : AttributeType). kept_as t item) same)

  -- a value that is looked up again is the value that was received
  value_again : {X : Type 0} (type : AttributeType) (kind : ℕ) (f : Item → X) → kind < 256 → type_of kind ≡ type
      → ((item : Item) → option_map f (kept_as type item) ≡ Some (f item)) → option_map f (look kind again) ≡ option_map f (look kind items)
  value_again type kind f octet is same =
      ap (option_map f) (look_again kind octet)
      ∙ elim (cases_Option (look kind items)) [
        | inl none ↦ rw none refl
        | inr some ↦ ap (option_map f) (kept_at type kind some.0 is some.1) ∙ same some.0 ∙ sym (ap (option_map f) some.1)
      ]

  passed_on_again : (kind : ℕ) → kind < 256 → passed_on_in again kind ≡ passed_on_in items kind
  passed_on_again kind octet = grind (arith, look_again kind octet, passes_again)

  others_again : others_of again ≡ others_of items
  unfolding others_of
  others_again = filter_map-same (passed_on_in again) (passed_on_in items) (range_with_len 0 256)
      (All-range (λ k. passed_on_in again k ≡ passed_on_in items k) 0 256 256 refl (λ k le lt. passed_on_again k lt))

  -- those that are passed on, in ascending type
  pub passed_in_order : map passed_on_of (filter is_passed_on again) ≡ others_of items
  unfolding others_of again
  passed_in_order =
      passed-filter (kept_in items) (range_with_len 0 256)
      ∙ filter_map-same (λ kind. option_and_then passes (kept_in items kind)) (passed_on_in items) (range_with_len 0 256)
      (All-range (λ k. option_and_then passes (kept_in items k) ≡ passed_on_in items k) 0 256 256 refl
      (λ k le lt. sym (ap (option_and_then passes) (look_again k lt)) ∙ passed_on_again k lt))

  is_some-map : {X : Type 0} (found : Option X) → is_some found ≡ is_some (option_map (λ x. true) found)
  is_some-map None = refl
  is_some-map (Some x) = refl

  pub attributes_again : (origin path next_hop : Item) → look 1 items ≡ Some origin → look 2 items ≡ Some path
      → look 3 items ≡ Some next_hop
      → attributes_of again ≡ Some (attributes_from items origin path next_hop)
  attributes_again origin path next_hop has_origin has_path has_next_hop =
      let first = look_again 1 (omega arith) ∙ kept_at types.Origin 1 origin refl has_origin in
      let second = look_again 2 (omega arith) ∙ kept_at types.AsPath 2 path refl has_path in
      let third = look_again 3 (omega arith) ∙ kept_at types.NextHop 3 next_hop refl has_next_hop in
      let med = value_again types.MultiExitDisc 4 (λ (item : Item). big_number 4 item.value) (omega arith) refl (λ item. refl) in
      let atomic = is_some-map (look 6 again) ∙ ap (λ (found : Option Bool). is_some found)
      (value_again types.AtomicAggregate 6 (λ (item : Item). true) (omega arith) refl (λ item. refl))
      ∙ sym (is_some-map (look 6 items)) in
      let aggregator =
      value_again types.Aggregator 7 aggregator_of (omega arith) refl (λ item. ap (λ (a : Aggregator). Some a) (partial_again item)) in
      let communities =
      value_again types.Communities 8 community_list_of (omega arith) refl
      (λ item. ap (λ (list : CommunityList). Some list) (communities_again item)) in
      attributes_of-found again (well_known origin.kind origin.value) (well_known path.kind path.value)
      (well_known next_hop.kind next_hop.value) first second third
      ∙ ap (λ (a : PathAttributes). Some a) (same_attributes refl refl refl med atomic aggregator communities others_again)

  again_fits : AllByRecursion FitsItsLength again
  unfolding again
  again_fits = All-filter_map FitsItsLength (kept_in items) (range_with_len 0 256)
      (All-range (λ k. (item : Item) → kept_in items k ≡ Some item → FitsItsLength item) 0 256 256 refl
      (λ k le lt item e. (kept_written items sound k item e).fits))

  -- spelled, they are read as they were
  pub read_again : parts_of item_at (flat_map spelled_item again) ≡ (again, [])
  read_again = items_of-spelled again again_fits

  pub again_without : first_item_fault [] again ≡ None
  unfolding again
  again_without = ascending_without (kept_in items) (kept_written items sound) 0 256 [] tt

-- what is written is read as it was
written_parts : (section : List ℕ) (attributes : PathAttributes) (fit : AreOctets section) (faultless : section_fault section ≡ None)
    → attributes_of (items_of section) ≡ Some attributes
    → parts_of item_at (written attributes) ≡ (again (items_of section) (sound_section section fit faultless), [])
unfolding again
written_parts section attributes fit faultless e =
    let items = items_of section in
    let sound = sound_section section fit faultless in
    ap (parts_of item_at) (written-made items attributes sound e) ∙ read_again items sound

pub written_is_read : WrittenIsRead
written_is_read section attributes fit faultless e =
    let items = items_of section in
    let sound = sound_section section fit faultless in
    let made = made_of items attributes e in
    let parts = written_parts section attributes fit faultless e in
    let are : items_of (written attributes) ≡ again items sound = ap (λ (p : List Item × List ℕ). p.0) parts in
    let rest : rest_of (written attributes) ≡ [] = ap (λ (p : List Item × List ℕ). p.1) parts in
    let without = again_without items sound in
    let same = attributes_again items sound made.origin made.path made.next_hop made.has_origin made.has_path made.has_next_hop in (
      rw (are, rest, without) refl,
      ap attributes_of are ∙ same ∙ ap (λ (a : PathAttributes). Some a) made.are,
      written-shorter section attributes fit faultless e,
    )

-- the attributes that are passed on stand in ascending type
pub written-others : (section : List ℕ) (attributes : PathAttributes) → AreOctets section → section_fault section ≡ None
    → attributes_of (items_of section) ≡ Some attributes
    → passed_on_from (written attributes) ≡ attributes.others
written-others section attributes fit faultless e =
    let items = items_of section in
    ap (λ (p : List Item × List ℕ). map passed_on_of (filter is_passed_on p.0)) (written_parts section attributes fit faultless e)
    ∙ passed_in_order items (sound_section section fit faultless)
    ∙ ap (λ (a : PathAttributes). a.others) (made_of items attributes e).are
