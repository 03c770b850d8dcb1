use Rattle.std.proofs.Common.{◌∙◌, refl, sym, ap, arith, ℕ, List, Option, Some, length}
use Rattle.std.specs.Prelude.{slice_index, unwrap_or}
use Rattle.std.specs.Option.{option_map}
use Rattle.byteorder.specs.Endian.{big_number}
use Rattle.rs_types.specs.AsPath.{path_length_of, first_as_of}
use Rattle.rs_types.specs.AttributesView.{item_from, looked_up_in, value_of}
use Rattle.rs_types.specs.Gathered.{look, origin_with, attributes_of}
use Rattle.rs_types.specs.Items.{item_of}
use Rattle.rs_types.specs.PathSegments.{segments_of}
use Rattle.rs_types.specs.Section.{Item, items_of, section_fault}
use Rattle.rs_types.proofs.section.LookLemmas.{there, origin-length}
use Rattle.rs_types.proofs.section.SoundLemmas.{look_exact}
use Rattle.rs_types.proofs.attributes.Attributes.of_written.Goals as goal

pub path_is_short-requires-clause-faultless : goal.path_is_short-requires-clause-faultless
path_is_short-requires-clause-faultless c = ap section_fault c.as_slice-section.ensures.value ∙ c.requires.faultless

pub path_is_short-requires-clause-gives : goal.path_is_short-requires-clause-gives
path_is_short-requires-clause-gives c =
    let is = c.as_slice-section.ensures.value in
    ap (λ (os : List ℕ). attributes_of (items_of os)) is
    ∙ c.requires.gives
    ∙ ap (λ (os : List ℕ). Some (looked_up_in os)) (sym is)

pub med_of-requires : goal.med_of-requires
med_of-requires c = λ x e.
    let octets = c.args.spelling.items in
    let looked = c.find_item.ensures ∙ ap (λ (os : List ℕ). look 4 (items_of os)) c.as_slice-section.ensures.value in
    let stands = there 4 (items_of octets) c.find_item.result x looked e in
    omega (arith, look_exact octets 4 4 (item_of x) refl c.requires.faultless stands)

pub origin_of-requires : goal.origin_of-requires
origin_of-requires c =
    let octets = c.args.spelling.items in
    let value = c.value_in-2.ensures ∙ ap (λ (os : List ℕ). value_of (look 1 (items_of os))) c.as_slice-section.ensures.value in
    omega (arith, ap length value, origin-length octets (looked_up_in octets) c.requires.faultless c.requires.gives)

pub invariant_of-result : goal.invariant_of-result
invariant_of-result c =
    let is = c.as_slice-section.ensures.value in
    let origin = c.value_in-2.ensures ∙ ap (λ (os : List ℕ). value_of (look 1 (items_of os))) is in
    let path = c.value_in.ensures ∙ ap (λ (os : List ℕ). value_of (look 2 (items_of os))) is in
    let med = c.find_item.ensures ∙ ap (λ (os : List ℕ). look 4 (items_of os)) is in
    record {
      is_faultless = c.requires.faultless;
      fits_a_message = c.requires.short;
      says_the_attributes = c.requires.gives;
      is_written = c.requires.is_written;
      path_fits = omega (arith, c.path_is_short.ensures, ap (λ (os : List ℕ). path_length_of (looked_up_in os).path) is);
      origin_agrees = c.origin_of.ensures ∙ ap (λ (value : List ℕ). origin_with (slice_index value 0)) origin;
      med_agrees =
          c.unwrap_or.ensures
          ∙ ap (λ (found : Option ℕ). unwrap_or found 0) (c.med_of.ensures
          ∙ ap (option_map (λ (item : Item). big_number 4 item.value)) med);
      neighbour_agrees = c.first_as.ensures ∙ ap (λ (value : List ℕ). first_as_of (segments_of value).0) path;
      communities_stand_there =
          sym (ap (λ (os : List ℕ). item_from os c.place_of.result) is)
          ∙ c.place_of.ensures
          ∙ ap (λ (os : List ℕ). look 8 (items_of os)) is;
    }
