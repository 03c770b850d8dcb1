-- A field that is parts spelled one after another is read as these parts: for HandlingLemmas and AgainLemmas.
use Rattle.std.proofs.Common.{◌≡◌, ℕ, zero, suc, ◌<◌, ◌≤◌, List, [], ◌∷◌, ◌++◌, length, Option, Some, None, refl, sym, ap, ◌∙◌}
use Rattle.std.proofs.Common.{append_assoc, arith}
use Rattle.std.specs.List.{flat_map, AllByRecursion}
use Rattle.std.proofs.lemmas.List.{append-nil, length-append}
use Rattle.rs_types.specs.Parts.{parts_within, parts_of}
use Rattle.rs_types.specs.Section.{Item, FitsItsLength, item_at}
use Rattle.rs_types.specs.Spelling.{spelled_item}
use Rattle.rs_types.proofs.section.ItemLemmas.{item_at-spelled}

-- a reader that reads each part that fits from its spelling, and no spelling is empty
module _ {A : Type 0} (read : List ℕ → Option (A × List ℕ)) (spell : A → List ℕ) (Fits : A → Type 0)
    (reads : (part : A) (behind : List ℕ) → Fits part → read (spell part ++ behind) ≡ Some (part, behind))
    (takes : (part : A) → 0 < length (spell part)) where
  -- enough steps read all parts
  pub parts_within-spelled : (parts : List A) (rest : List ℕ) (fuel : ℕ) → length parts ≤ fuel → AllByRecursion Fits parts
      → read rest ≡ None → parts_within read fuel (flat_map spell parts ++ rest) ≡ (parts, rest)
  unfolding parts_within
  parts_within-spelled [] rest zero enough fit none = refl
  parts_within-spelled [] rest (suc fuel) enough fit none = rw (none, parts_within) refl
  parts_within-spelled (part ∷ later) rest zero enough fit none = absurd (omega arith)
  parts_within-spelled (part ∷ later) rest (suc fuel) enough fit none =
      let one = reads part (flat_map spell later ++ rest) fit.0 in
      let others = parts_within-spelled later rest fuel (omega arith) fit.1 none in
      rw (append_assoc (spell part) (flat_map spell later) rest, parts_within, one, others) refl

  -- a field has no more parts than octets
  pub count_spelled : (parts : List A) → length parts ≤ length (flat_map spell parts)
  count_spelled [] = omega arith
  count_spelled (part ∷ later) = omega (arith, takes part, count_spelled later, length-append (spell part) (flat_map spell later))

  pub parts_of-spelled : (parts : List A) (rest : List ℕ) → AllByRecursion Fits parts → read rest ≡ None
      → parts_of read (flat_map spell parts ++ rest) ≡ (parts, rest)
  parts_of-spelled parts rest fit none =
      parts_within-spelled parts rest _ (omega (arith, count_spelled parts, length-append (flat_map spell parts) rest)) fit none

-- attributes that fit their lengths are the attributes of the section that they are spelled as, and nothing is left over
pub items_of-spelled : (items : List Item) → AllByRecursion FitsItsLength items
    → parts_of item_at (flat_map spelled_item items) ≡ (items, [])
unfolding item_at
items_of-spelled items fit =
    ap (parts_of item_at) (sym (append-nil (flat_map spelled_item items)))
    ∙ parts_of-spelled item_at spelled_item FitsItsLength item_at-spelled (λ item. omega arith) items [] fit refl
