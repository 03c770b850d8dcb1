-- Items in the order of their numbers, block by block.
use Rattle.std.proofs.Common.{◌≡◌, ◌∙◌, sym, ap, subst, ℕ, ◌+◌, ◌-◌, ◌/◌, ◌^◌, ◌≤◌, ◌<◌, true, false, inl, inr, List, [], ◌∷◌, ◌++◌, length, min, drop, arith}
use Rattle.std.proofs.Common.{slice_index_or}
use Rattle.std.specs.Prelude.{nat_le, nat_lt}
use Rattle.std.specs.List.{AllWithin, slice_range}
use Rattle.std.specs.List.Sorted.{IsNonDecreasingBy, IsPartitionPoint, IsPartitionedBy}
use Rattle.std.proofs.Math.Nat.{div-mul-le_self}
use Rattle.std.proofs.lemmas.Bool.{cases_lt, leb-false, leb-true, ltb-false, ltb-true}
use Rattle.std.proofs.lemmas.List.{get_or-drop, get_or-take, get_or_append_left, get_or_push, length-drop, length-take, length_push}
use Rattle.std.proofs.lemmas.List.Sorted.{IsNonDecreasingBy-drop, IsNonDecreasingBy-take, IsPartitionedBy-ltb}
use Rattle.std.proofs.lemmas.Nat.{le-div, pow_pos}
use Rattle.rs_import.specs.Blocks.{AreStarts, IsStart, IsWithinBlock}

-- the blocks of numbers are in the order of the numbers
block-mono : (one other shift : ℕ) → one ≤ other → one / 2 ^ shift ≤ other / 2 ^ shift
block-mono one other shift low =
    le-div (one / 2 ^ shift) other (2 ^ shift) (pow_pos shift) (omega (arith, div-mul-le_self one (2 ^ shift), low))

module _ {X : Type 0} (number_of : X → ℕ) (items : List X) where
  -- items before a block and behind it have numbers below and above those of the block
  pub within-block : (d : X) (number shift from to : ℕ) → IsStart number_of items shift (number / 2 ^ shift) from
      → IsStart number_of items shift (number / 2 ^ shift + 1) to → IsWithinBlock number_of items number from to
  within-block d number shift from to begins ends = (
    elim (cases_lt to from) [
      | inl less ↦ absurd (omega (arith, begins.1 to d (omega arith) less, ends.2 to d (omega arith) (omega (arith, less, begins.0))))
      | inr order ↦ omega (arith, order)
    ],
    ends.0,
    λ k e low before. elim (cases_lt number (number_of (slice_index_or items k e))) [
      | inl above ↦ absurd (omega (arith, begins.1 k e low before, block-mono number (number_of (slice_index_or items k e)) shift (omega (arith, above))))
      | inr at ↦ omega (arith, at)
    ],
    λ k e behind inside. elim (cases_lt number (number_of (slice_index_or items k e))) [
      | inl above ↦ above
      | inr at ↦ absurd (omega (arith, ends.2 k e behind inside, block-mono (number_of (slice_index_or items k e)) number shift (omega (arith, at))))
    ],
  )

  -- items from one place to another rise as all do
  pub rising-slice : (from to : ℕ) → IsNonDecreasingBy number_of items → IsNonDecreasingBy number_of (slice_range items from to)
  rising-slice from to rising =
      IsNonDecreasingBy-take number_of (to - from) (drop from items) (IsNonDecreasingBy-drop number_of from items rising)

  -- what stands at a place of a slice
  slice-at : (from to k : ℕ) (d : X) → from ≤ k → k < to → slice_index_or (slice_range items from to) (k - from) d ≡ slice_index_or items k d
  slice-at from to k d low high =
      let same : from + (k - from) ≡ k = omega (arith, low) in
      get_or-take (to - from) (drop from items) (k - from) d (omega (arith, low, high))
      ∙ (get_or-drop from items (k - from) d ∙ ap (λ (n : ℕ). slice_index_or items n d) same)

  slice-length : (from to : ℕ) → from ≤ to → to ≤ length items → length (slice_range items from to) ≡ to - from
  slice-length from to low high =
      length-take (to - from) (drop from items) ∙ (ap (λ (n : ℕ). min (to - from) n) (length-drop from items) ∙ omega (arith, low, high))

  module _ (number from to count : ℕ) (block : IsWithinBlock number_of items number from to)
      (parted : IsPartitionPoint (λ item. nat_le (number_of item) number ≡ true) (λ item. nat_le (number_of item) number ≡ false) (slice_range items from to) count)
      (bound : count ≤ length (slice_range items from to)) where
    inside : from + count ≤ to
    inside = omega (arith, bound, slice-length from to block.0 block.1, block.0)

    pub counted-within : from + count ≤ length items
    counted-within = omega (arith, inside, block.1)

    pub counted-up_to : AllWithin (λ item. number_of item ≤ number) items 0 (from + count)
    counted-up_to k d low before = elim (cases_lt k from) [
      | inl first ↦ block.2 k d low first
      | inr later ↦
          subst (λ (x : X). number_of x ≤ number) (slice-at from to k d (omega (arith, later)) (omega (arith, before, inside)))
          (leb-true _ _ (parted.0 (k - from) d (omega arith) (omega (arith, later, before))))
    ]

    pub counted-behind : AllWithin (λ item. number < number_of item) items (from + count) (length items)
    counted-behind k d low before = elim (cases_lt k to) [
      | inl first ↦
          subst (λ (x : X). number < number_of x) (slice-at from to k d (omega (arith, low)) first)
          (leb-false _ _ (parted.1 (k - from) d (omega (arith, low)) (omega (arith, low, first, slice-length from to block.0 block.1, block.0))))
      | inr later ↦ block.3 k d (omega (arith, later)) before
    ]

-- the items of a number's block, if the starts have that block and the next one
pub found-block : {X : Type 0} (number_of : X → ℕ) (items : List X) (number shift from to : ℕ) (starts : List ℕ) → AreStarts number_of items shift starts
    → true ≡ nat_lt (number / 2 ^ shift) (length starts) → from ≡ slice_index_or starts (number / 2 ^ shift) from
    → true ≡ nat_lt (number / 2 ^ shift + 1) (length starts) → to ≡ slice_index_or starts (number / 2 ^ shift + 1) to
    → IsWithinBlock number_of items number from to
found-block {X} number_of items number shift from to starts told has-from at-from has-to at-to = by_items items told
  where
    begins : (xs : List X) → AreStarts number_of xs shift starts → IsStart number_of xs shift (number / 2 ^ shift) from
    begins xs told =
        subst (λ (n : ℕ). IsStart number_of xs shift (number / 2 ^ shift) n) (sym at-from) (told.1 (number / 2 ^ shift) (ltb-true _ _ (sym has-from)) from)

    ends : (xs : List X) → AreStarts number_of xs shift starts → IsStart number_of xs shift (number / 2 ^ shift + 1) to
    ends xs told =
        subst (λ (n : ℕ). IsStart number_of xs shift (number / 2 ^ shift + 1) n) (sym at-to) (told.1 (number / 2 ^ shift + 1) (ltb-true _ _ (sym has-to)) to)

    by_items : (xs : List X) → AreStarts number_of xs shift starts → IsWithinBlock number_of xs number from to
    by_items [] told =
        let none : from ≡ 0 = omega (arith, (begins [] told).0) in
        (omega (arith, none), (ends [] told).0, λ k e low before. absurd (omega (arith, before, none)), λ k e behind inside. absurd (omega (arith, inside)))
    by_items (x ∷ xs) told = within-block number_of (x ∷ xs) x number shift from to (begins (x ∷ xs) told) (ends (x ∷ xs) told)

-- by whether the block of a number stands before one, items in order are parted
pub parts-blocks : {X : Type 0} (number_of : X → ℕ) (items : List X) (shift block : ℕ) → IsNonDecreasingBy number_of items
    → IsPartitionedBy (λ item. nat_lt (number_of item / 2 ^ shift) block) items
parts-blocks number_of items shift block rising =
    IsPartitionedBy-ltb (λ item. number_of item / 2 ^ shift) items block
    (λ i j d low inside. block-mono (number_of (slice_index_or items i d)) (number_of (slice_index_or items j d)) shift (rising i j d low inside))

-- so many items stand before a block that a search by blocks has found
pub parted-start : {X : Type 0} (number_of : X → ℕ) (items : List X) (shift block start : ℕ) → start ≤ length items
    → IsPartitionPoint (λ item. nat_lt (number_of item / 2 ^ shift) block ≡ true) (λ item. nat_lt (number_of item / 2 ^ shift) block ≡ false) items start
    → IsStart number_of items shift block start
parted-start number_of items shift block start within parted = (
  within,
  λ k d low before. ltb-true _ _ (parted.0 k d low before),
  λ k d low before. omega (arith, ltb-false _ _ (parted.1 k d low before)),
)

-- no start yet
pub starts-none : {X : Type 0} (number_of : X → ℕ) (items : List X) (shift : ℕ) (starts : List ℕ) → shift < 32 → starts ≡ []
    → AreStarts number_of items shift starts
starts-none number_of items shift starts fits none = (fits, λ block low. absurd (omega (arith, low, ap length none)))

-- one start more
pub starts-push : {X : Type 0} (number_of : X → ℕ) (items : List X) (shift : ℕ) (starts : List ℕ) (start : ℕ) → AreStarts number_of items shift starts
    → IsStart number_of items shift (length starts) start → AreStarts number_of items shift (starts ++ start ∷ [])
starts-push number_of items shift starts start before one = (
  before.0,
  λ block low d. elim (cases_lt block (length starts)) [
    | inl first ↦
        subst (λ (n : ℕ). IsStart number_of items shift block n) (sym (get_or_append_left starts (start ∷ []) d block first)) (before.1 block first d)
    | inr last ↦
        let same : length starts ≡ block = omega (arith, last, low, length_push starts start) in
        subst (λ (n : ℕ). IsStart number_of items shift block n) (sym (get_or_push starts start d block same))
        (subst (λ (b : ℕ). IsStart number_of items shift b start) same one)
  ],
)
