-- What is read of the written form of attributes is these attributes: for `gather` of gather.rt.
use Rattle.std.proofs.Common.{◌≡◌, ℕ, ◌≤◌, true, List, length, Option, Some, None, refl, sym, ap, ◌∙◌, arith}
use Rattle.std.specs.Prelude.{slice_index}
use Rattle.byteorder.specs.Endian.{big_number}
use Rattle.rs_update.specs.declared.found.Found.{Found}
use Rattle.rs_types.specs.AttributesView.{value_of, looked_up_in}
use Rattle.rs_update.specs.Found.{Finds, has_mandatory, spelled_section}
use Rattle.rs_types.specs.Gathered.{origin_with, attributes_of}
use Rattle.rs_types.specs.Parts.{AreOctets}
use Rattle.rs_types.specs.PathAttributes.{PathAttributes}
use Rattle.rs_types.specs.PathSegments.{segments_of}
use Rattle.rs_types.specs.Section.{Item, items_of, section_fault}
use Rattle.rs_types.specs.Shapes.{passed_on_from}
use Rattle.rs_types.specs.Spelling.{written}
use Rattle.rs_update.proofs.spelling.AgainLemmas.{written_is_read, written-others}
use Rattle.rs_types.proofs.section.SoundLemmas.{sound_section}
use Rattle.rs_types.proofs.section.KindLemmas.{some_there}
use Rattle.rs_types.proofs.section.LookLemmas.{made_of}
use Rattle.rs_update.proofs.gather.WholeLemmas.{mandatory-found, written-made, same_attributes}

-- a written form says the attributes that it gives a route, where it passes them on in order
pub looked_up : (octets : List ℕ) (attributes : PathAttributes) → attributes_of (items_of octets) ≡ Some attributes
    → passed_on_from octets ≡ attributes.others → looked_up_in octets ≡ attributes
looked_up octets attributes given passed =
    let made = made_of (items_of octets) attributes given in
    same_attributes
    (ap (λ (item : Option Item). origin_with (slice_index (value_of item) 0)) made.has_origin)
    (ap (λ (item : Option Item). (segments_of (value_of item)).0) made.has_path)
    (ap (λ (item : Option Item). big_number 4 (value_of item)) made.has_next_hop)
    refl
    refl
    refl
    refl
    (passed ∙ sym (ap (λ (a : PathAttributes). a.others) made.are))
    ∙ made.are

-- ---- attributes that a section without fault gives, and octets that are spelled of what is found in it

pub record Says (section octets : List ℕ) (attributes : PathAttributes) : Type 0 where
  pub given : attributes_of (items_of section) ≡ Some attributes
  pub is_written : octets ≡ written attributes
  pub is_faultless : section_fault octets ≡ None
  pub fits_a_message : length octets ≤ 4073
  pub given_again : attributes_of (items_of octets) ≡ Some attributes
  pub is_looked_up : looked_up_in octets ≡ attributes

module _ (section : List ℕ) (fit : AreOctets section) (faultless : section_fault section ≡ None) (short : length section ≤ 4073) where
  written-says : (attributes : PathAttributes) (octets : List ℕ) → attributes_of (items_of section) ≡ Some attributes
      → octets ≡ written attributes → Says section octets attributes
  written-says attributes octets given are =
      let read = written_is_read section attributes fit faultless given in
      let again : attributes_of (items_of octets) ≡ Some attributes = ap (λ (os : List ℕ). attributes_of (items_of os)) are ∙ read.1 in
      record {
        given = given;
        is_written = are;
        is_faultless = ap section_fault are ∙ read.0;
        fits_a_message = omega (arith, ap length are, read.2, short);
        given_again = again;
        is_looked_up = looked_up octets attributes again (ap passed_on_from are ∙ written-others section attributes fit faultless given);
      }

  -- octets that are spelled of what was found with none of the mandatory ones missing
  pub spelled-says : (found : Found) (octets : List ℕ) → Finds found section → has_mandatory found ≡ true
      → octets ≡ spelled_section (items_of section) → (attributes : PathAttributes) × Says section octets attributes
  spelled-says found octets finds stands spelled =
      let items = items_of section in
      let given = some_there (attributes_of items) (sym (mandatory-found found section finds) ∙ stands) in (
        given.0,
        written-says given.0 octets given.1 (spelled ∙ sym (written-made items given.0 (sound_section section fit faultless) given.1)),
      )
