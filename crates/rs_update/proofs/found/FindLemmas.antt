-- What is found while a section without fault is read, and what is written of it type by type: for `find_items` of found.rt and `spell` of
-- spelling.rt.
use Rattle.std.proofs.Common.{◌≡◌, ℕ, suc, ◌+◌, ◌-◌, ◌<◌, ◌≤◌, false, not, eqb, List, [], ◌∷◌, ◌++◌, length, get_or, set, replicate, Option}
use Rattle.std.proofs.Common.{Some, None, refl, sym, ap, subst, ◌∙◌, append_assoc, arith, inl, inr, get_or-set_same, get_or-set_other}
use Rattle.std.specs.Prelude.{option_and_then, is_some}
use Rattle.std.specs.List.{filter_map, flat_map, range_with_len}
use Rattle.std.proofs.lemmas.Bool.{cases_eq, ne_eqb}
use Rattle.std.proofs.lemmas.Bool.Decides.{nat_tests}
use Rattle.std.proofs.lemmas.List.{length-replicate, get_or-replicate, length-set, append-nil}
use Rattle.rs_types.specs.AttributesView.{item_from}
use Rattle.rs_update.specs.Found.{kept_of, kept_in, spelled_kept}
use Rattle.rs_types.specs.Gathered.{look}
use Rattle.rs_types.specs.Parts.{AreOctets}
use Rattle.rs_types.specs.Section.{Item, item_at, items_of, section_fault, has_type, first_item_fault}
use Rattle.rs_types.specs.Spelling.{spelled_item}
use Rattle.rs_types.proofs.section.ItemLemmas.{items_of-step, items_of-end}
use Rattle.rs_types.proofs.section.KindLemmas.{cases_Option, All-range, filter_map-none, none_of_type}
use Rattle.rs_types.proofs.section.PlaceLemmas.{item_there, item_from-past}
use Rattle.rs_types.proofs.section.ReceivedLemmas.{item_at-reads}
use Rattle.rs_types.proofs.section.SoundLemmas.{section_without, later_without}

-- ---- the places of the attributes that were read so far

pub record FindsSoFar (section rest places : List ℕ) (end : ℕ) : Type 0 where
  pub before : List ℕ
  pub earlier : List Item
  pub octets : section ≡ before ++ rest
  pub items : items_of section ≡ earlier ++ items_of rest
  pub rest_octets : AreOctets rest
  pub whole : length places ≡ 256
  pub at_each : (kind : ℕ) → kind < 256 → (not (eqb (get_or places kind 0) 65535) ≡ is_some (look kind earlier))
      × (item_from section (get_or places kind 0) ≡ look kind earlier)
  pub none_behind : (kind : ℕ) → end ≤ kind → look kind earlier ≡ None
  pub end_fits : end ≤ 256

-- nothing yet
pub finds_nothing : (section : List ℕ) → AreOctets section → length section < 65535 → FindsSoFar section section (replicate 256 65535) 0
finds_nothing section fit past = let nowhere : ℕ = 65535 in record {
  before = [];
  earlier = [];
  octets = refl;
  items = refl;
  rest_octets = fit;
  whole = length-replicate 256 nowhere;
  at_each = λ kind below. let table = get_or-replicate 256 kind nowhere 0 below in
      (ap (λ (place : ℕ). not (eqb place 65535)) table, ap (item_from section) table ∙ item_from-past section nowhere past);
  none_behind = λ kind behind. refl;
  end_fits = omega arith;
}

-- one attribute more, of a type that wasn't found
look-new : (kind : ℕ) (earlier : List Item) (item : Item) → item.kind ≡ kind → look kind earlier ≡ None
    → look kind (earlier ++ item ∷ []) ≡ Some item
look-new kind [] item same none = grind (arith, nat_tests)
look-new kind (first ∷ earlier) item same none = grind (arith, nat_tests, look-new kind earlier item same)

-- one of another type changes nothing
look-other : (kind : ℕ) (earlier : List Item) (item : Item) → (item.kind ≡ kind → ⊥) → look kind (earlier ++ item ∷ []) ≡ look kind earlier
look-other kind [] item other = grind (arith, nat_tests)
look-other kind (first ∷ earlier) item other = grind (arith, nat_tests, look-other kind earlier item other)

pub finds_one : (section rest places : List ℕ) (end next : ℕ) (split : Item × List ℕ) → section_fault section ≡ None
    → length section < 65535 → item_at rest ≡ Some split → end ≤ next → split.0.kind < next → next ≤ 256
    → FindsSoFar section rest places end → FindsSoFar section split.1 (set places split.0.kind (length section - length rest)) next
finds_one section rest places end next split faultless short there after behind fits so_far =
    let item = split.0 in
    let kind = item.kind in
    let place = length section - length rest in
    let reads = item_at-reads rest split so_far.rest_octets there in
    let later = items_of split.1 in
    let all : items_of section ≡ so_far.earlier ++ item ∷ later =
    so_far.items ∙ ap (λ (behind : List Item). so_far.earlier ++ behind) (items_of-step rest split there) in
    let fresh : has_type kind so_far.earlier ≡ false =
    later_without [] so_far.earlier item later (subst (λ (items : List Item). first_item_fault [] items ≡ None) all
    (section_without section faultless).0) in
    let none : look kind so_far.earlier ≡ None = none_of_type kind so_far.earlier fresh in
    record {
      before = so_far.before ++ spelled_item item;
      earlier = so_far.earlier ++ item ∷ [];
      octets = so_far.octets ∙ ap (λ (octets : List ℕ). so_far.before ++ octets) (sym reads.0)
          ∙ sym (append_assoc so_far.before (spelled_item item) split.1);
      items = all ∙ sym (append_assoc so_far.earlier (item ∷ []) later);
      rest_octets = reads.1;
      whole = length-set places kind place ∙ so_far.whole;
      at_each = λ k below.
          elim (cases_eq k kind) [
            | inl same ↦
                let table : get_or (set places kind place) k 0 ≡ place =
                rw same (get_or-set_same places kind place 0 (omega (arith, so_far.whole, reads.2.kind_fits))) in
                let here : look k (so_far.earlier ++ item ∷ []) ≡ Some item =
                look-new k so_far.earlier item (sym same) (ap (λ (j : ℕ). look j so_far.earlier) same ∙ none) in
                let somewhere : eqb place 65535 ≡ false = ne_eqb place 65535 (λ e. omega (arith, e, short)) in (
                  ap (λ (p : ℕ). not (eqb p 65535)) table ∙ ap not somewhere ∙ sym (ap (λ (found : Option Item). is_some found) here),
                  ap (item_from section) table ∙ item_there so_far.before section rest split so_far.octets there ∙ sym here,
                )
            | inr other ↦
                let table = get_or-set_other places kind k place 0 other in
                let here = sym (look-other k so_far.earlier item (λ same. other (sym same))) in (
                  ap (λ (p : ℕ). not (eqb p 65535)) table ∙ (so_far.at_each k below).0 ∙ ap (λ (found : Option Item). is_some found) here,
                  ap (item_from section) table ∙ (so_far.at_each k below).1 ∙ here,
                )
          ];
      none_behind = λ k above. look-other k so_far.earlier item (λ same. omega (arith, same, above, behind))
          ∙ so_far.none_behind k (omega (arith, above, after));
      end_fits = fits;
    }

-- no attribute is left
pub found_all : (section rest places : List ℕ) (end : ℕ) → item_at rest ≡ None → (so_far : FindsSoFar section rest places end)
    → so_far.earlier ≡ items_of section
found_all section rest places end none so_far =
    sym (so_far.items ∙ ap (λ (behind : List Item). so_far.earlier ++ behind) (items_of-end rest none) ∙ append-nil so_far.earlier)

-- ---- what is written of the types from one on

abbrev pub spelled_from : List Item → ℕ → List ℕ
spelled_from items kind = flat_map spelled_item (filter_map (kept_in items) (range_with_len kind (256 - kind)))

pub spelled_from-step : (items : List Item) (kind : ℕ) → kind < 256
    → spelled_from items kind ≡ spelled_kept (kept_in items kind) ++ spelled_from items (kind + 1)
spelled_from-step items kind below =
    let n : 256 - kind ≡ suc (256 - (kind + 1)) = omega arith in
    ap (λ (m : ℕ). flat_map spelled_item (filter_map (kept_in items) (range_with_len kind m))) n ∙ first
  where
    first : flat_map spelled_item (filter_map (kept_in items) (kind ∷ range_with_len (kind + 1) (256 - (kind + 1))))
        ≡ spelled_kept (kept_in items kind) ++ spelled_from items (kind + 1)
    first =
        elim (cases_Option (kept_in items kind)) [
          | inl none ↦ rw none refl
          | inr some ↦ rw some.1 refl
        ]

pub spelled_from-end : (items : List Item) (end : ℕ) → end ≤ 256 → ((kind : ℕ) → end ≤ kind → look kind items ≡ None)
    → spelled_from items end ≡ []
spelled_from-end items end fits none =
    ap (flat_map spelled_item) (filter_map-none (kept_in items) (range_with_len end (256 - end))
    (All-range (λ k. kept_in items k ≡ None) end (256 - end) 256 (omega arith)
    (λ k above lt. ap (option_and_then kept_of) (none k above))))
