-- Where an attribute begins in a section, and which of them are passed on: for item.rt, the iterator of `Others` in attributes.rt,
-- and FindLemmas.
use Rattle.std.proofs.Common.{◌≡◌, ℕ, ◌-◌, ◌<◌, true, false, List, [], ◌∷◌, ◌++◌, length, drop, map, Some, None, refl, sym, ap, ◌∙◌, arith}
use Rattle.std.specs.Prelude.{filter}
use Rattle.std.specs.Option.{option_map}
use Rattle.std.proofs.lemmas.Bool.{eq-eqb, ne_eqb}
use Rattle.std.proofs.lemmas.List.{length-append, length-drop, nil_from_length}
use Rattle.std.proofs.Math.Seq.{drop-append_seam}
use Rattle.rs_types.specs.AttributesView.{item_from}
use Rattle.rs_types.specs.Gathered.{look, is_passed_on, passed_on_of}
use Rattle.rs_types.specs.Section.{Item, item_at, items_of}
use Rattle.rs_types.specs.Shapes.{passed_on_from}
use Rattle.rs_types.proofs.section.ItemLemmas.{items_of-step, items_of-end}

-- behind the octets before it a section goes on
behind : (before section rest : List ℕ) → section ≡ before ++ rest → drop (length section - length rest) section ≡ rest
behind before section rest e =
    let size : length section - length rest ≡ length before = omega (arith, ap length e, length-append before rest) in
    ap (λ (n : ℕ). drop n section) size ∙ ap (drop (length before)) e ∙ drop-append_seam before rest

-- an attribute begins there
pub item_there : (before section rest : List ℕ) (split : Item × List ℕ) → section ≡ before ++ rest → item_at rest ≡ Some split
    → item_from section (length section - length rest) ≡ Some split.0
item_there before section rest split there e =
    ap (λ (octets : List ℕ). option_map (λ (s : Item × List ℕ). s.0) (item_at octets)) (behind before section rest there)
    ∙ ap (option_map (λ (s : Item × List ℕ). s.0)) e

-- an attribute of the type that is looked for stands first
pub look-here : (kind : ℕ) (rest : List ℕ) (split : Item × List ℕ) → item_at rest ≡ Some split → split.0.kind ≡ kind
    → look kind (items_of rest) ≡ Some split.0
look-here kind rest split e same = ap (look kind) (items_of-step rest split e) ∙ rw (eq-eqb split.0.kind kind same) refl

-- an attribute of another type is passed by
pub look-past : (kind : ℕ) (rest : List ℕ) (split : Item × List ℕ) → item_at rest ≡ Some split → (split.0.kind ≡ kind → ⊥)
    → look kind (items_of rest) ≡ look kind (items_of split.1)
look-past kind rest split e other = ap (look kind) (items_of-step rest split e) ∙ rw (ne_eqb split.0.kind kind other) refl

-- where no attribute stands none is found
pub look-end : (kind : ℕ) (rest : List ℕ) → item_at rest ≡ None → look kind (items_of rest) ≡ None
look-end kind rest e = ap (look kind) (items_of-end rest e)

module _ (before section rest : List ℕ) (kind : ℕ) (there : section ≡ before ++ rest)
    (held : look kind (items_of rest) ≡ look kind (items_of section)) where
  pub item_from-found : (split : Item × List ℕ) → item_at rest ≡ Some split → split.0.kind ≡ kind
      → item_from section (length section - length rest) ≡ look kind (items_of section)
  item_from-found split e same =
      item_there before section rest split there e ∙ sym (look-here kind rest split e same) ∙ held

  pub item_from-none : item_at rest ≡ None → item_from section (length section - length rest) ≡ look kind (items_of section)
  item_from-none e =
      ap (λ (octets : List ℕ). option_map (λ (s : Item × List ℕ). s.0) (item_at octets)) (behind before section rest there)
      ∙ ap (option_map (λ (s : Item × List ℕ). s.0)) e
      ∙ sym (look-end kind rest e)
      ∙ held

-- no attribute begins past the end
pub item_from-past : (section : List ℕ) (place : ℕ) → length section < place → item_from section place ≡ None
unfolding item_at
item_from-past section place past =
    ap (λ (octets : List ℕ). option_map (λ (s : Item × List ℕ). s.0) (item_at octets))
    (nil_from_length (drop place section) (omega (arith, length-drop place section)))

-- ---- the attributes that are passed on, one by one

pub passed-step : (octets : List ℕ) (split : Item × List ℕ) → item_at octets ≡ Some split → is_passed_on split.0 ≡ true
    → passed_on_from octets ≡ passed_on_of split.0 ∷ passed_on_from split.1
passed-step octets split e passed =
    ap (λ (items : List Item). map passed_on_of (filter is_passed_on items)) (items_of-step octets split e) ∙ rw passed refl

pub passed-skip : (octets : List ℕ) (split : Item × List ℕ) → item_at octets ≡ Some split → is_passed_on split.0 ≡ false
    → passed_on_from octets ≡ passed_on_from split.1
passed-skip octets split e dropped =
    ap (λ (items : List Item). map passed_on_of (filter is_passed_on items)) (items_of-step octets split e) ∙ rw dropped refl

pub passed-end : (octets : List ℕ) → item_at octets ≡ None → passed_on_from octets ≡ []
passed-end octets e = ap (λ (items : List Item). map passed_on_of (filter is_passed_on items)) (items_of-end octets e)
