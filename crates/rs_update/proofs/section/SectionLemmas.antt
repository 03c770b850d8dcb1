-- The first fault of a section, attribute by attribute, with the types seen so far: for `find_fault` of section.rt, and treating.rt.
use Rattle.std.proofs.Common.{◌≡◌, ℕ, ◌<◌, Bool, true, false, eqb, ◌||◌, List, [], ◌∷◌, ◌++◌, length, get_or, set, Option, Some, None, refl}
use Rattle.std.proofs.Common.{sym, ap, ◌∙◌, arith, inl, inr, get_or-set_same, get_or-set_other, replicate, append_assoc}
use Rattle.std.specs.Prelude.{if◌then◌else◌}
use mathlib.Core.Bool.{or-true, or-false}
use Rattle.std.specs.List.{list_any}
use Rattle.std.proofs.lemmas.Bool.{cases_eq, eq-eqb, ne_eqb}
use Rattle.std.proofs.lemmas.Grind.{common_steps}
use Rattle.std.proofs.lemmas.List.{append-nil, length-replicate, get_or-replicate, length-set}
use Rattle.rs_types.specs.declared.fault.UpdateFault.{UpdateFault}
use Rattle.rs_types.specs.declared.fault.UpdateFault.TheVariants.{MalformedAttributeList}
use Rattle.rs_update.specs.Concerns.{AreTypesOf}
use Rattle.rs_types.specs.FirstFault.{or_else}
use Rattle.rs_types.specs.Parts.{parts_of}
use Rattle.rs_types.specs.Section.{Item, item_at, items_of, rest_of, own_fault_of, has_type, fault_behind, first_item_fault, fault_of_rest}
use Rattle.rs_types.specs.Section.{section_fault}
use Rattle.rs_types.proofs.section.ItemLemmas.{item_shrinks, items_of-step, items_of-end}
use Rattle.rs_types.proofs.fields.PartsLemmas.{parts_of-some, parts_of-none}

-- the first fault of attributes that stand behind others, and of a rest
abbrev pub fault_of_parts : List Item → List Item × List ℕ → Option UpdateFault
fault_of_parts earlier parts = or_else (first_item_fault earlier parts.0) (fault_of_rest parts.1)

-- the first fault of octets that stand behind attributes
abbrev pub fault_after : List Item → List ℕ → Option UpdateFault
fault_after earlier octets = fault_of_parts earlier (parts_of item_at octets)

-- a table of types says which stood earlier
pub record IsSeen (seen : List Bool) (earlier : List Item) : Type 0 where
  pub whole : length seen ≡ 256
  pub at_each : (kind : ℕ) → kind < 256 → get_or seen kind false ≡ has_type kind earlier

or_else-assoc : {F : Type 0} (a b c : Option F) → or_else (or_else a b) c ≡ or_else a (or_else b c)
or_else-assoc None b c = refl
or_else-assoc (Some fault) b c = refl

-- the fault of the first attribute, or else of what stands behind it
pub fault_after-step : (earlier : List Item) (octets : List ℕ) (split : Item × List ℕ) → item_at octets ≡ Some split
    → fault_after earlier octets ≡ or_else (fault_behind earlier split.0) (fault_after (earlier ++ split.0 ∷ []) split.1)
unfolding first_item_fault
fault_after-step earlier octets split e =
    let parts = parts_of-some item_at item_shrinks octets split.0 split.1 e in
    ap (fault_of_parts earlier) parts ∙ (or_else-assoc (fault_behind earlier split.0)
    (first_item_fault (earlier ++ split.0 ∷ []) (items_of split.1)) (fault_of_rest (rest_of split.1)))

-- no attribute is left
pub fault_after-end : (earlier : List Item) (octets : List ℕ) → item_at octets ≡ None → fault_after earlier octets ≡ fault_of_rest octets
unfolding first_item_fault
fault_after-end earlier octets e =
    let parts = parts_of-none item_at octets e in
    ap (fault_of_parts earlier) parts

pub list_any-push : (p : Item → Bool) (xs : List Item) (x : Item) → list_any p (xs ++ x ∷ []) ≡ (list_any p xs || p x)
list_any-push p xs x = grind (arith, common_steps)

-- nothing stood earlier
pub none_seen : IsSeen (replicate 256 false) []
none_seen = record { whole = length-replicate 256 false; at_each = λ kind below. get_or-replicate 256 kind false false below }

-- one more type stood earlier
pub one_seen : (seen : List Bool) (earlier : List Item) (item : Item) → item.kind < 256 → IsSeen seen earlier
    → IsSeen (set seen item.kind true) (earlier ++ item ∷ [])
one_seen seen earlier item octet before = record {
  whole = length-set seen item.kind true ∙ before.whole;
  at_each = λ kind below.
      elim (cases_eq kind item.kind) [
        | inl same ↦
            let stands : eqb item.kind kind ≡ true = eq-eqb _ _ (sym same) in
            let table : get_or (set seen item.kind true) kind false ≡ true =
            rw same (get_or-set_same seen item.kind true false (omega (arith, before.whole))) in
            table ∙ sym (rw (list_any-push, stands) (or-true (has_type kind earlier)))
        | inr other ↦
            let differs : eqb item.kind kind ≡ false = ne_eqb _ _ (λ same. other (sym same)) in
            rw (get_or-set_other seen item.kind kind true false other, list_any-push, differs)
            (before.at_each kind below ∙ sym (or-false (has_type kind earlier)))
      ];
}

-- attributes that stood earlier, as a table says: with those that are left they are those of the whole section, and none of
-- them nor what is left decides otherwise than the whole
abbrev pub GoesOn : List Bool → List ℕ → List ℕ → Type 0
GoesOn seen octets section =
    (earlier : List Item) × IsSeen seen earlier × (earlier ++ items_of octets ≡ items_of section)
    × (fault_after earlier octets ≡ section_fault section)

-- the fault of an attribute, by a table of the types that stood earlier
abbrev pub fault_seen : List Bool → Item → Option UpdateFault
fault_seen seen item = if get_or seen item.kind false then Some MalformedAttributeList else own_fault_of item

seen_is : (seen : List Bool) (earlier : List Item) (item : Item) → item.kind < 256 → IsSeen seen earlier
    → fault_seen seen item ≡ fault_behind earlier item
seen_is seen earlier item octet before = rw (before.at_each item.kind octet) refl

-- the next attribute is without fault
pub goes_on : (seen : List Bool) (octets behind section : List ℕ) (item : Item) → item.kind < 256 → Some (item, behind) ≡ item_at octets
    → None ≡ fault_seen seen item
    → GoesOn seen octets section → GoesOn (set seen item.kind true) behind section
goes_on seen octets behind section item octet read faultless so_far =
    let earlier = so_far.0 in
    let step = fault_after-step earlier octets (item, behind) (sym read) in
    let here : fault_behind earlier item ≡ None = sym (faultless ∙ seen_is seen earlier item octet so_far.1) in
    let on : fault_after earlier octets ≡ fault_after (earlier ++ item ∷ []) behind =
    step ∙ ap (λ (found : Option UpdateFault). or_else found (fault_after (earlier ++ item ∷ []) behind)) here in
    let items = append_assoc earlier (item ∷ []) (items_of behind)
    ∙ ap (λ (later : List Item). earlier ++ later) (sym (items_of-step octets (item, behind) (sym read))) in
    (earlier ++ item ∷ [], one_seen seen earlier item octet so_far.1, items ∙ so_far.2, sym on ∙ so_far.3)

-- the next attribute is at fault
pub ends_at : (seen : List Bool) (octets behind section : List ℕ) (item : Item) (fault : UpdateFault) → item.kind < 256
    → Some (item, behind) ≡ item_at octets → Some fault ≡ fault_seen seen item
    → GoesOn seen octets section → Some fault ≡ section_fault section
ends_at seen octets behind section item fault octet read found so_far =
    let earlier = so_far.0 in
    let step = fault_after-step earlier octets (item, behind) (sym read) in
    let here : fault_behind earlier item ≡ Some fault = sym (found ∙ seen_is seen earlier item octet so_far.1) in
    sym (step ∙ ap (λ (f : Option UpdateFault). or_else f (fault_after (earlier ++ item ∷ []) behind)) here) ∙ so_far.3

-- no attribute is left
pub ends_with : (seen : List Bool) (octets section : List ℕ) → None ≡ item_at octets → GoesOn seen octets section
    → fault_of_rest octets ≡ section_fault section
ends_with seen octets section none so_far = sym (fault_after-end so_far.0 octets (sym none)) ∙ so_far.3

pub all_types : (seen : List Bool) (octets section : List ℕ) → None ≡ item_at octets → GoesOn seen octets section
    → AreTypesOf seen (items_of section)
all_types seen octets section none so_far kind below =
    let all = sym (append-nil so_far.0) ∙ ap (λ (later : List Item). so_far.0 ++ later) (sym (items_of-end octets (sym none))) ∙ so_far.2 in
    so_far.1.at_each kind below ∙ ap (has_type kind) all
