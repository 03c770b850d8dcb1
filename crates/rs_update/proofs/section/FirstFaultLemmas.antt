-- The first attribute at fault, by its place among the attributes: for `a_section_is_at_fault_by_its_first_attribute_at_fault` of laws.rt,
-- and SectionExamples.
use Rattle.std.proofs.Common.{◌≡◌, ◌≢◌, ℕ, List, [], ◌∷◌, ◌++◌, Option, Some, None, ◌⊎◌, inl, inr, refl, sym, ap, ◌∙◌, append_assoc, arith}
use Rattle.std.specs.Prelude.{◌↔◌}
use Rattle.std.proofs.lemmas.Bool.Decides.{nat_tests}
use Rattle.std.proofs.lemmas.List.{append-nil}
use Rattle.rs_types.specs.declared.fault.UpdateFault.{UpdateFault}
use Rattle.rs_types.specs.declared.fault.UpdateFault.TheVariants.{MalformedAttributeList}
use Rattle.rs_types.specs.FirstFault.{or_else}
use Rattle.rs_types.specs.Section.{Item, items_of, rest_of, fault_of_rest, fault_behind, first_item_fault, section_fault, AreFaultless}
use Rattle.rs_types.specs.Section.{IsFirstAtFault}
use Rattle.rs_types.proofs.section.SoundLemmas.{neither, section_without}

-- the same of attributes that stand behind others
abbrev AreFaultlessBehind : List Item → List Item → Type 0
AreFaultlessBehind earlier items =
    (before : List Item) (item : Item) (after : List Item) → items ≡ before ++ item ∷ after → fault_behind (earlier ++ before) item ≡ None

abbrev IsFirstBehind : List Item → List Item → UpdateFault → Type 0
IsFirstBehind earlier items fault =
    (before : List Item) × (item : Item) × (after : List Item)
    × (items ≡ before ++ item ∷ after) × (fault_behind (earlier ++ before) item ≡ Some fault) × AreFaultlessBehind earlier before

-- the attributes before a place, with the one that stands first
before_one : (earlier before : List Item) (item : Item) → (earlier ++ item ∷ []) ++ before ≡ earlier ++ item ∷ before
before_one earlier before item = append_assoc earlier (item ∷ []) before

-- no place is in no attributes
pub nothing_before : (before : List Item) (item : Item) (after : List Item) → [] ≡ before ++ item ∷ after → ⊥
nothing_before [] item after e = cc
nothing_before (first ∷ before) item after e = cc

-- at the first place, or at one behind it
faultless_cons : (earlier : List Item) (first : Item) (items : List Item) → fault_behind earlier first ≡ None
    → AreFaultlessBehind (earlier ++ first ∷ []) items → AreFaultlessBehind earlier (first ∷ items)
faultless_cons earlier first items here later [] item after e =
    let same : first ≡ item = cc in
    rw append-nil (sym (ap (fault_behind earlier) same) ∙ here)
faultless_cons earlier first items here later (other ∷ before) item after e =
    let same : first ≡ other = cc in
    let rest : items ≡ before ++ item ∷ after = cc in
    rw (← same, ← before_one earlier before first) (later before item after rest)

faultless_head : (earlier : List Item) (first : Item) (items : List Item) → AreFaultlessBehind earlier (first ∷ items)
    → fault_behind earlier first ≡ None
faultless_head earlier first items all = let here = all [] first items refl in rw append-nil at here

faultless_tail : (earlier : List Item) (first : Item) (items : List Item) → AreFaultlessBehind earlier (first ∷ items)
    → AreFaultlessBehind (earlier ++ first ∷ []) items
faultless_tail earlier first items all before item after e =
    rw before_one (all (first ∷ before) item after (ap (λ (xs : List Item). first ∷ xs) e))

-- no fault is found exactly where none is at fault
faultless : (earlier items : List Item) → first_item_fault earlier items ≡ None → AreFaultlessBehind earlier items
unfolding first_item_fault
faultless earlier [] none = λ before item after e. absurd (nothing_before before item after e)
faultless earlier (first ∷ items) none =
    let parts = neither (fault_behind earlier first) (first_item_fault (earlier ++ first ∷ []) items) none in
    faultless_cons earlier first items parts.0 (faultless (earlier ++ first ∷ []) items parts.1)

none_found : (earlier items : List Item) → AreFaultlessBehind earlier items → first_item_fault earlier items ≡ None
unfolding first_item_fault
none_found earlier [] all = refl
none_found earlier (first ∷ items) all =
    ap (λ (here : Option UpdateFault). or_else here (first_item_fault (earlier ++ first ∷ []) items))
    (faultless_head earlier first items all)
    ∙ none_found (earlier ++ first ∷ []) items (faultless_tail earlier first items all)

-- a fault is found exactly where it is of the first at fault
found_at : (earlier before : List Item) (item : Item) (after : List Item) (fault : UpdateFault)
    → fault_behind (earlier ++ before) item ≡ Some fault → AreFaultlessBehind earlier before
    → first_item_fault earlier (before ++ item ∷ after) ≡ Some fault
unfolding first_item_fault
found_at earlier [] item after fault here all =
    let at_once : fault_behind earlier item ≡ Some fault = rw append-nil at here in
    ap (λ (found : Option UpdateFault). or_else found (first_item_fault (earlier ++ item ∷ []) after)) at_once
found_at earlier (first ∷ before) item after fault here all =
    ap (λ (found : Option UpdateFault). or_else found (first_item_fault (earlier ++ first ∷ []) (before ++ item ∷ after)))
    (faultless_head earlier first before all)
    ∙ found_at (earlier ++ first ∷ []) before item after fault (rw before_one here) (faultless_tail earlier first before all)

first_of : (earlier items : List Item) (fault : UpdateFault) → first_item_fault earlier items ≡ Some fault
    → IsFirstBehind earlier items fault
unfolding first_item_fault
first_of earlier [] fault found = absurd cc
first_of earlier (first ∷ items) fault found =
    elim (fault_behind earlier first) as (λ here. fault_behind earlier first ≡ here
    → or_else here (first_item_fault (earlier ++ first ∷ []) items) ≡ Some fault → IsFirstBehind earlier (first ∷ items) fault) [
      | Some other ↦ λ here same.
          ([], first, items, refl, rw append-nil (here ∙ same), λ before item after e. absurd (nothing_before before item after e))
      | None ↦ λ here later.
          let behind = first_of (earlier ++ first ∷ []) items fault later in (
            first ∷ behind.0,
            behind.1,
            behind.2,
            ap (λ (xs : List Item). first ∷ xs) behind.3,
            rw (← before_one earlier behind.0 first) behind.4,
            faultless_cons earlier first behind.0 here behind.5,
          )
    ] refl found

found_of : (earlier items : List Item) (fault : UpdateFault) → IsFirstBehind earlier items fault
    → first_item_fault earlier items ≡ Some fault
found_of earlier items fault is = ap (first_item_fault earlier) is.3 ∙ found_at earlier is.0 is.1 is.2 fault is.4 is.5

-- ---- a section

rest_some : (rest : List ℕ) (fault : UpdateFault) → fault_of_rest rest ≡ Some fault → (rest ≢ []) × (fault ≡ MalformedAttributeList)
rest_some [] fault e = absurd cc
rest_some (octet ∷ rest) fault e = (λ empty. cc, grind (arith, nat_tests))

some_rest : (rest : List ℕ) (fault : UpdateFault) → rest ≢ [] → fault ≡ MalformedAttributeList → fault_of_rest rest ≡ Some fault
some_rest [] fault some e = absurd (some refl)
some_rest (octet ∷ rest) fault some e = grind (arith, nat_tests)

either : (here : Option UpdateFault) (rest : List ℕ) (fault : UpdateFault) → or_else here (fault_of_rest rest) ≡ Some fault
    → (here ≡ Some fault) ⊎ ((here ≡ None) × (fault_of_rest rest ≡ Some fault))
either None rest fault e = inr (refl, e)
either (Some other) rest fault e = inl e

pub section_is_faultless : (section : List ℕ) → ((section_fault section ≡ None)
    ↔ (AreFaultless (items_of section) × (rest_of section ≡ [])))
section_is_faultless section = (
  λ none.
      let parts = section_without section none in
      (faultless [] (items_of section) parts.0, parts.1),
  λ parts.
      let items : first_item_fault [] (items_of section) ≡ None = none_found [] (items_of section) parts.0 in
      ap (λ (here : Option UpdateFault). or_else here (fault_of_rest (rest_of section))) items ∙ ap fault_of_rest parts.1,
)

pub section_is_at_fault : (section : List ℕ) (fault : UpdateFault)
    → ((section_fault section ≡ Some fault) ↔ (IsFirstAtFault (items_of section) fault
    ⊎ (AreFaultless (items_of section) × (rest_of section ≢ []) × (fault ≡ MalformedAttributeList))))
section_is_at_fault section fault = (
  λ found.
      elim (either (first_item_fault [] (items_of section)) (rest_of section) fault found) [
        | inl here ↦ inl (first_of [] (items_of section) fault here)
        | inr behind ↦
            let rest = rest_some (rest_of section) fault behind.1 in
            inr (faultless [] (items_of section) behind.0, rest.0, rest.1)
      ],
  λ is.
      elim is [
        | inl here ↦ ap (λ (found : Option UpdateFault). or_else found (fault_of_rest (rest_of section)))
            (found_of [] (items_of section) fault here)
        | inr behind ↦
            ap (λ (found : Option UpdateFault). or_else found (fault_of_rest (rest_of section))) (none_found [] (items_of section) behind.0)
            ∙ some_rest (rest_of section) fault behind.1 behind.2
      ],
)
