-- What holds of the attributes of a section without fault: for `whole` of gather.rt, `spell` of spelling.rt, attributes.rt, and the lemmas
-- of faults and of what is found and written.
use Rattle.std.proofs.Common.{◌≡◌, ℕ, ◌%◌, ◌<◌, ◌&&◌, true, false, not, eqb, List, [], ◌∷◌, ◌++◌, length, Option, Some, None, subst}
use Rattle.std.proofs.Common.{append_assoc, arith, inl, inr}
use Rattle.std.specs.List.{AllByRecursion}
use Rattle.std.proofs.lemmas.Bool.{cases_Bool, eqb-true, and_parts}
use Rattle.std.proofs.lemmas.List.{append-nil, nil_from_length}
use Rattle.std.proofs.lemmas.Bool.Decides.{nat_tests}
use Rattle.std.proofs.lemmas.Option.{same_Some}
use Rattle.rs_types.specs.declared.attribute_type.AttributeType.{AttributeType}
use Rattle.rs_types.specs.declared.attribute_type.AttributeType.TheVariants as types
use Rattle.rs_types.specs.declared.attribute_type.Lengths.{Lengths}
use Rattle.rs_types.specs.declared.attribute_type.Lengths.TheVariants.{Exactly}
use Rattle.rs_types.specs.AttributeType.{type_of, row_of, is_unrecognized, is_optional, flags_of, suits, admits}
use Rattle.rs_types.specs.FirstFault.{first_fault, or_else}
use Rattle.rs_types.specs.Gathered.{look}
use Rattle.rs_types.specs.Parts.{AreOctets}
use Rattle.rs_types.specs.Section.{Item, items_of, rest_of, tests_of, has_type, first_item_fault, section_fault, suits_length, value_tests}
use Rattle.rs_types.specs.Section.{is_origin, is_path}
use Rattle.rs_types.proofs.section.KindLemmas.{kind_of_found}
use Rattle.rs_types.proofs.section.ReceivedLemmas.{IsReceived, section-is_spelled}

-- no fault, and none later
pub neither : {F : Type 0} (a b : Option F) → or_else a b ≡ None → (a ≡ None) × (b ≡ None)
neither a b e = (grind arith, grind arith)

-- what a section without fault has: attributes without fault, and nothing left over
pub section_without : (section : List ℕ) → section_fault section ≡ None → (first_item_fault [] (items_of section) ≡ None)
    × (rest_of section ≡ [])
section_without section e =
    let both = neither _ _ e in
    (both.0, nil_from_length (rest_of section) (grind (arith, nat_tests)))

-- an attribute among others: its type stood not earlier, and it passes its own tests
pub item_without : (earlier : List Item) (item : Item) (later : List Item) → first_item_fault earlier (item ∷ later) ≡ None
    → (has_type item.kind earlier ≡ false) × (first_fault (tests_of (type_of item.kind) item.flags item.value) ≡ None)
    × (first_item_fault (earlier ++ item ∷ []) later ≡ None)
unfolding first_item_fault
item_without earlier item later e = (grind arith, grind arith, grind arith)

pub later_without : (earlier front : List Item) (item : Item) (later : List Item) → first_item_fault earlier (front ++ item ∷ later) ≡ None
    → has_type item.kind (earlier ++ front) ≡ false
later_without earlier [] item later e = rw (append-nil earlier) (item_without earlier item later e).0
later_without earlier (first ∷ front) item later e =
    let behind = later_without (earlier ++ first ∷ []) front item later (item_without earlier first (front ++ item ∷ later) e).2 in
    rw (append_assoc earlier (first ∷ []) front) at behind

-- an attribute that is looked up
look_without : (earlier items : List Item) (kind : ℕ) (item : Item) → first_item_fault earlier items ≡ None → look kind items ≡ Some item
    → first_fault (tests_of (type_of item.kind) item.flags item.value) ≡ None
look_without earlier [] kind item none e = absurd cc
look_without earlier (first ∷ items) kind item none e =
    let here = item_without earlier first items none in
    elim (cases_Bool (eqb first.kind kind)) [
      | inl same ↦
          let is : first ≡ item = same_Some first item (rw same at e) in
          subst (λ (i : Item). first_fault (tests_of (type_of i.kind) i.flags i.value) ≡ None) is here.1
      | inr other ↦ look_without (earlier ++ first ∷ []) items kind item here.2 (rw other at e)
    ]

look_received : (items : List Item) (kind : ℕ) (item : Item) → AllByRecursion IsReceived items → look kind items ≡ Some item
    → IsReceived item
look_received [] kind item each e = absurd cc
look_received (first ∷ items) kind item each e = grind (arith, look_received items kind item each.1, each.0)

-- attributes without fault, as they are received
pub record AreSound (items : List Item) : Type 0 where
  pub without : first_item_fault [] items ≡ None
  pub received : AllByRecursion IsReceived items

pub sound_section : (section : List ℕ) → AreOctets section → section_fault section ≡ None → AreSound (items_of section)
sound_section section fit none = record { without = (section_without section none).0; received = (section-is_spelled section fit).1 }

-- one of them, by its type
pub record IsSound (kind : ℕ) (item : Item) : Type 0 where
  pub has_kind : item.kind ≡ kind
  pub tests : first_fault (tests_of (type_of kind) item.flags item.value) ≡ None
  pub received : IsReceived item

look_tests : (items : List Item) (kind : ℕ) (item : Item) → first_item_fault [] items ≡ None → look kind items ≡ Some item
    → first_fault (tests_of (type_of kind) item.flags item.value) ≡ None
look_tests items kind item none e =
    subst (λ (k : ℕ). first_fault (tests_of (type_of k) item.flags item.value) ≡ None)
    (kind_of_found (λ (i : Item). i.kind) kind items item e) (look_without [] items kind item none e)

pub look_sound : (items : List Item) (kind : ℕ) (item : Item) → AreSound items → look kind items ≡ Some item → IsSound kind item
look_sound items kind item sound e = record {
  has_kind = kind_of_found (λ (i : Item). i.kind) kind items item e;
  tests = look_tests items kind item sound.without e;
  received = look_received items kind item sound.received e;
}

-- ---- what the tests say of a value

-- flags and length
pub tests_passed : (type : AttributeType) (flags : ℕ) (value : List ℕ) → first_fault (tests_of type flags value) ≡ None
    → ((is_unrecognized type && not (is_optional flags)) ≡ false) × (suits (flags_of type) flags ≡ true)
    × (suits_length type (length value) ≡ true) × (first_fault (value_tests type value) ≡ None)
tests_passed type flags value e = (grind arith, grind arith, grind arith, grind arith)

pub origin_value : (item : Item) → IsSound 1 item → is_origin item.value ≡ true
origin_value item sound =
    let all = (tests_passed types.Origin item.flags item.value sound.tests).3 in
    grind arith

pub path_value : (item : Item) → IsSound 2 item → is_path item.value ≡ true
path_value item sound =
    let all = (tests_passed types.AsPath item.flags item.value sound.tests).3 in
    grind arith

pub communities_value : (item : Item) → IsSound 8 item → length item.value % 4 ≡ 0
communities_value item sound = eqb-true _ _ (and_parts _ _ (tests_passed types.Communities item.flags item.value sound.tests).2).1

-- a value of just so many octets, by its type
pub exact_value : (kind wanted : ℕ) (item : Item) → (row_of (type_of kind)).lengths ≡ Exactly wanted
    → first_fault (tests_of (type_of kind) item.flags item.value) ≡ None → length item.value ≡ wanted
exact_value kind wanted item exactly tests =
    eqb-true _ _ (subst (λ (lengths : Lengths). admits lengths (length item.value) ≡ true) exactly
    (tests_passed (type_of kind) item.flags item.value tests).2)

pub look_exact : (section : List ℕ) (kind wanted : ℕ) (item : Item) → (row_of (type_of kind)).lengths ≡ Exactly wanted
    → section_fault section ≡ None → look kind (items_of section) ≡ Some item → length item.value ≡ wanted
look_exact section kind wanted item exactly faultless e =
    exact_value kind wanted item exactly (look_tests (items_of section) kind item (section_without section faultless).0 e)

-- a length that fits its octets fits two octets
pub received_short : (item : Item) → IsReceived item → length item.value < 65536
received_short item received = grind (arith, received.length_fits)
