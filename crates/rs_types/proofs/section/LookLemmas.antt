-- Attributes that are looked up in a section without fault: for attributes.rt, and for gather.rt and spelling.rt of rs_update.
use Rattle.std.proofs.Common.{◌≡◌, ℕ, ◌<◌, List, length, Option, Some, None}
use Rattle.std.proofs.Common.{refl, sym, ap, ◌∙◌, arith}
use Rattle.std.specs.Prelude.{option_and_then}
use Rattle.std.specs.Option.{option_map}
use Rattle.std.proofs.lemmas.Option.{same_Some}
use Rattle.rs_types.specs.declared.item.Item.{Item as ItemThere}
use Rattle.rs_types.specs.AsPath.{path_length_of}
use Rattle.rs_types.specs.AttributesView.{value_of}
use Rattle.rs_types.specs.Gathered.{look, attributes_from, attributes_of}
use Rattle.rs_types.specs.Items.{item_of}
use Rattle.rs_types.specs.Parts.{AreOctets}
use Rattle.rs_types.specs.PathAttributes.{PathAttributes}
use Rattle.rs_types.specs.PathSegments.{segments_of}
use Rattle.rs_types.specs.Section.{Item, items_of, section_fault}
use Rattle.rs_types.proofs.section.ReceivedLemmas.{path_length_fits}
use Rattle.rs_types.proofs.section.SoundLemmas.{AreSound, sound_section, look_sound, look_exact, received_short}

-- what is there is found
pub there : (kind : ℕ) (items : List Item) (field : Option ItemThere) (item : ItemThere) → option_map item_of field ≡ look kind items
    → field ≡ Some item → look kind items ≡ Some (item_of item)
there kind items field item e is = sym e ∙ ap (option_map item_of) is

pub found_short : (items : List Item) (kind : ℕ) (item : Item) → AreSound items → look kind items ≡ Some item → length item.value < 65536
found_short items kind item sound e = received_short item (look_sound items kind item sound e).received

-- ---- the attributes as a whole

-- they are made of the three mandatory ones, where none of these misses
abbrev pub of_three : List Item → Option Item → Option Item → Option Item → Option PathAttributes
of_three items origin path next_hop =
    option_and_then (λ o. option_and_then (λ p. option_map (attributes_from items o p) next_hop) path) origin

-- attributes as they are made
pub record AreMade (items : List Item) (found1 found2 found3 : Option Item) (attributes : PathAttributes) : Type 0 where
  pub origin : Item
  pub path : Item
  pub next_hop : Item
  pub has_origin : found1 ≡ Some origin
  pub has_path : found2 ≡ Some path
  pub has_next_hop : found3 ≡ Some next_hop
  pub are : attributes_from items origin path next_hop ≡ attributes

made_of_three : (items : List Item) (found1 found2 found3 : Option Item) (attributes : PathAttributes)
    → of_three items found1 found2 found3 ≡ Some attributes → AreMade items found1 found2 found3 attributes
made_of_three items None path next_hop attributes e = absurd cc
made_of_three items (Some o) None next_hop attributes e = absurd cc
made_of_three items (Some o) (Some p) None attributes e = absurd cc
made_of_three items (Some o) (Some p) (Some n) attributes e =
    record { origin = o; path = p; next_hop = n; has_origin = refl; has_path = refl; has_next_hop = refl; are = same_Some _ _ e }

pub made_of : (items : List Item) (attributes : PathAttributes) → attributes_of items ≡ Some attributes
    → AreMade items (look 1 items) (look 2 items) (look 3 items) attributes
unfolding attributes_of
made_of items attributes e = made_of_three items (look 1 items) (look 2 items) (look 3 items) attributes e

-- ---- values that are there in a section without fault

module _ (section : List ℕ) (attributes : PathAttributes) where
  pub origin-length : section_fault section ≡ None → attributes_of (items_of section) ≡ Some attributes
      → length (value_of (look 1 (items_of section))) ≡ 1
  origin-length faultless given =
      let made = made_of (items_of section) attributes given in
      ap (λ (item : Option Item). length (value_of item)) made.has_origin
      ∙ look_exact section 1 1 made.origin refl faultless made.has_origin

  pub next_hop-length : section_fault section ≡ None → attributes_of (items_of section) ≡ Some attributes
      → length (value_of (look 3 (items_of section))) ≡ 4
  next_hop-length faultless given =
      let made = made_of (items_of section) attributes given in
      ap (λ (item : Option Item). length (value_of item)) made.has_next_hop
      ∙ look_exact section 3 4 made.next_hop refl faultless made.has_next_hop

  -- a path has fewer AS numbers than a value can have octets
  pub path-fits : AreOctets section → section_fault section ≡ None → attributes_of (items_of section) ≡ Some attributes
      → path_length_of (segments_of (value_of (look 2 (items_of section)))).0 < 65536
  path-fits fit faultless given =
      let made = made_of (items_of section) attributes given in
      let sound = sound_section section fit faultless in
      let received = (look_sound (items_of section) 2 made.path sound made.has_path).received in
      omega (
        arith,
        ap (λ (item : Option Item). path_length_of (segments_of (value_of item)).0) made.has_path,
        path_length_fits made.path.value received.value_octets,
        received_short made.path received,
      )
