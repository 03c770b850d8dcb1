-- Numbers by bits.
use Rattle.std.proofs.Common.{◌≡◌, ◌∙◌, sym, ap, refl, ℕ, ◌*◌, ◌+◌, ◌/◌, ◌%◌, ◌^◌, ◌<◌, ◌≤◌, Bool, true, false, ◌||◌, ◌&&◌, ◌==◌, max, min, inl, inr, List, length, arith, bit_or, take, slice_index_or, slice_set, w64}
use Rattle.std.specs.Prelude.{nat_le, nat_lt}
use Rattle.std.specs.Int.{bit_at}
use Rattle.std.proofs.Math.Bool.{and-true, or-false, or-true}
use Rattle.std.proofs.Math.Nat.{div-add-mod}
use Rattle.std.proofs.lemmas.Bool.{and_from, and_parts, and_right, both_ways, cases_Bool, cases_eq, cases_lt, false_from_ne_true, leb-true, eq-eqb, le-leb, le-ltb, lt-leb, lt-ltb, ne_eqb}
use Rattle.std.proofs.lemmas.List.{get_or-set_other, get_or-set_same, get_or-take, length-take}
use Rattle.std.proofs.lemmas.Nat.Bits.{bit_at_set_other, bit_at_set_same}
use Rattle.std.proofs.lemmas.List.Folds.{list_any_at, list_any_more}
use Rattle.rs_types.specs.declared.as_range.AsRange.{AsRange}
use Rattle.rs_import.specs.AsRanges.{is_in_range, is_in_ranges}
use Rattle.rs_import.specs.Bits.{has_bit}
use Rattle.rs_import.specs.Reaches.{AreInOrder, IsReach}

-- a number by its word and its bit there
same-number : (number other : ℕ) → other / 64 ≡ number / 64 → other % 64 ≡ number % 64 → other ≡ number
same-number number other word bit = omega (arith, word, bit, div-add-mod number 64, div-add-mod other 64)

module _ (words : List ℕ) (number word : ℕ) (inside : number / 64 < length words) (at : word ≡ slice_index_or words (number / 64) 0) where
  abbrev pub more : ℕ
  more = bit_or word (1 * 2 ^ (number % 64) % 2 ^ 64)

  -- what stands in the word of the number
  there : (other : ℕ) → other / 64 ≡ number / 64 → slice_index_or (slice_set words (number / 64) more) (other / 64) 0 ≡ more
  there other here =
      ap (λ (n : ℕ). slice_index_or (slice_set words (number / 64) more) n 0) here ∙ get_or-set_same words (number / 64) more 0 inside

  -- a word with one bit more
  pub set-bit : (other : ℕ) → has_bit (slice_set words (number / 64) more) other ≡ (has_bit words other || other == number)
  set-bit other = elim (cases_eq (other / 64) (number / 64)) [
    | inl here ↦ elim (cases_eq (other % 64) (number % 64)) [
      | inl same ↦
          ap (λ (w : ℕ). bit_at w (other % 64) == 1) (there other here)
          ∙ (ap (λ (n : ℕ). bit_at more n == 1) same
          ∙ (ap (λ (n : ℕ). n == 1) (bit_at_set_same w64 word (number % 64) (omega arith))
          ∙ sym (ap (λ (b : Bool). has_bit words other || b) (eq-eqb other number (same-number number other here same)) ∙ or-true (has_bit words other))))
      | inr apart ↦
          ap (λ (w : ℕ). bit_at w (other % 64) == 1) (there other here)
          ∙ (ap (λ (n : ℕ). n == 1) (bit_at_set_other w64 word (number % 64) (omega arith) (other % 64) apart)
          ∙ (ap (λ (w : ℕ). bit_at w (other % 64) == 1) (at ∙ ap (λ (n : ℕ). slice_index_or words n 0) (sym here))
          ∙ sym (ap (λ (b : Bool). has_bit words other || b) (ne_eqb other number (λ is. apart (ap (λ (n : ℕ). n % 64) is))) ∙ or-false (has_bit words other))))
    ]
    | inr away ↦
        ap (λ (w : ℕ). bit_at w (other % 64) == 1) (get_or-set_other words (number / 64) (other / 64) more 0 away)
        ∙ sym (ap (λ (b : Bool). has_bit words other || b) (ne_eqb other number (λ is. away (ap (λ (n : ℕ). n / 64) is))) ∙ or-false (has_bit words other))
  ]

-- the numbers from the first one up to the next one are those up to the last one, once that is passed
pub passed-all : (first last next number : ℕ) → next ≤ max first (last + 1) → last < next
    → (nat_le first number && nat_lt number next) ≡ (nat_le first number && nat_le number last)
passed-all first last next number near passed = elim (cases_lt number first) [
  | inl before ↦ ap (λ (b : Bool). b && nat_lt number next) (lt-leb first number before) ∙ sym (ap (λ (b : Bool). b && nat_le number last) (lt-leb first number before))
  | inr from ↦ ap (λ (b : Bool). nat_le first number && b) (elim (cases_lt number next) [
    | inl below ↦ lt-ltb number next below ∙ sym (le-leb number last (omega (arith, below, near, from)))
    | inr above ↦ le-ltb number next above ∙ sym (lt-leb number last (omega (arith, above, passed)))
  ])
]

-- the numbers from the first one up to the next one, and that one
passed-one : (first next number : ℕ) → first ≤ next
    → ((nat_le first number && nat_lt number next) || number == next) ≡ (nat_le first number && nat_lt number (next + 1))
passed-one first next number from = elim (cases_lt number next) [
  | inl below ↦
      by_first (nat_le first number) (nat_lt number next) (number == next) (nat_lt number (next + 1))
      (lt-ltb number next below) (ne_eqb number next (λ is. omega (arith, is, below))) (lt-ltb number (next + 1) (omega (arith, below)))
  | inr above ↦ elim (cases_eq number next) [
    | inl is ↦
        by_next (nat_le first number) (nat_lt number next) (number == next) (nat_lt number (next + 1))
        (le-leb first number (omega (arith, is, from))) (eq-eqb number next is) (lt-ltb number (next + 1) (omega (arith, is)))
    | inr apart ↦
        by_none (nat_le first number) (nat_lt number next) (number == next) (nat_lt number (next + 1))
        (le-ltb number next above) (ne_eqb number next apart) (le-ltb number (next + 1) (behind apart above))
  ]
]
  where
    behind : (number ≡ next → ⊥) → next ≤ number → next + 1 ≤ number
    behind apart above = elim (cases_lt next number) [ inl less ↦ omega (arith, less) | inr not ↦ absurd (apart (omega (arith, not, above))) ]

    by_first : (a b e c : Bool) → b ≡ true → e ≡ false → c ≡ true → ((a && b) || e) ≡ (a && c)
    by_first true b e c left apart right = ap (λ (x : Bool). x || e) left ∙ sym right
    by_first false b e c left apart right = apart

    by_next : (a b e c : Bool) → a ≡ true → e ≡ true → c ≡ true → ((a && b) || e) ≡ (a && c)
    by_next a b e c begun same right =
        ap (λ (x : Bool). (a && b) || x) same ∙ (or-true (a && b) ∙ sym (ap (λ (x : Bool). x && c) begun ∙ right))

    by_none : (a b e c : Bool) → b ≡ false → e ≡ false → c ≡ false → ((a && b) || e) ≡ (a && c)
    by_none true b e c left apart right = ap (λ (x : Bool). x || e) left ∙ (apart ∙ sym right)
    by_none false b e c left apart right = apart

-- one number more is passed, and its bit is set
pub passed-more : (old was now : Bool) (first next number : ℕ) → first ≤ next
    → was ≡ (old || (nat_le first number && nat_lt number next)) → now ≡ (was || number == next)
    → now ≡ (old || (nat_le first number && nat_lt number (next + 1)))
passed-more old was now first next number from before after =
    after
    ∙ (ap (λ (b : Bool). b || number == next) before
    ∙ (joined old ∙ ap (λ (b : Bool). old || b) (passed-one first next number from)))
  where
    joined : (b : Bool) → ((b || (nat_le first number && nat_lt number next)) || number == next)
        ≡ (b || ((nat_le first number && nat_lt number next) || number == next))
    joined true = refl
    joined false = refl

-- the ranges so far, in order, and how far they reach
module _ (ranges : List AsRange) (order : AreInOrder ranges) (i reach : ℕ) (e : AsRange) (inside : i < length ranges)
    (start : i ≡ 0 → reach ≡ 0) (before : 0 < i → IsReach ranges i reach) where
  -- a number of the next range that is below where they reach is in one of them
  reached : (asn : ℕ) → (slice_index_or ranges i e).first ≤ asn → asn < reach → is_in_ranges (take i ranges) asn ≡ true
  reached asn begins below = elim (cases_lt 0 i) [
    | inl some ↦
        let is = (before some).1 in
        let at = get_or-take i ranges is.0 e is.1 in
        let low = le-leb (slice_index_or ranges is.0 e).first asn (omega (arith, order is.0 i e (omega (arith, is.1)) inside, begins)) in
        let high = le-leb asn (slice_index_or ranges is.0 e).last (omega (arith, is.2 e, below)) in
        list_any_at (is_in_range asn) (take i ranges) is.0 e (omega (arith, length-take i ranges, is.1, inside))
        (ap (is_in_range asn) at ∙ and_from _ _ low high)
    | inr none ↦ absurd (omega (arith, below, start (omega (arith, none))))
  ]

  -- one range more: its numbers that are not below where the ranges so far reach get their bits
  pub range-more : (asn last : ℕ) (was now : Bool) → was ≡ (is_in_ranges (take i ranges) asn && nat_le asn last)
      → now ≡ (was || (nat_le (max (slice_index_or ranges i e).first reach) asn && nat_le asn (min (slice_index_or ranges i e).last last)))
      → now ≡ (is_in_ranges (take (i + 1) ranges) asn && nat_le asn last)
  range-more asn last was now before_is now_is =
      let range = slice_index_or ranges i e in
      let so_far = is_in_ranges (take i ranges) asn in
      now_is
      ∙ (ap (λ (b : Bool). b || (nat_le (max range.first reach) asn && nat_le asn (min range.last last))) before_is
      ∙ (joined asn last so_far refl ∙ sym (ap (λ (b : Bool). b && nat_le asn last) (list_any_more (is_in_range asn) ranges i e inside))))
    where
      new_bit : ℕ → ℕ → Bool
      new_bit asn last = nat_le (max (slice_index_or ranges i e).first reach) asn && nat_le asn (min (slice_index_or ranges i e).last last)

      -- a number that no range so far has is in the range if it gets its bit
      alone : (asn last : ℕ) → is_in_ranges (take i ranges) asn ≡ false → asn ≤ last → new_bit asn last ≡ is_in_range asn (slice_index_or ranges i e)
      alone asn last apart low = elim (cases_Bool (is_in_range asn (slice_index_or ranges i e))) [
        | inl is ↦
            let range = slice_index_or ranges i e in
            let both = and_parts (nat_le range.first asn) (nat_le asn range.last) is in
            let begins = leb-true range.first asn both.0 in
            let ends = leb-true asn range.last both.1 in
            and_from _ _
            (le-leb (max (slice_index_or ranges i e).first reach) asn (elim (cases_lt asn reach) [
              | inl below ↦ absurd (both_ways _ apart (reached asn begins below))
              | inr behind ↦ omega (arith, begins, behind)
            ]))
            (le-leb asn (min (slice_index_or ranges i e).last last) (omega (arith, ends, low)))
            ∙ sym is
        | inr not ↦
            let range = slice_index_or ranges i e in
            false_from_ne_true (new_bit asn last) (λ bit.
            let both = and_parts (nat_le (max range.first reach) asn) (nat_le asn (min range.last last)) bit in
            both_ways (is_in_range asn range) not (and_from (nat_le range.first asn) (nat_le asn range.last)
            (le-leb range.first asn (omega (arith, leb-true (max range.first reach) asn both.0)))
            (le-leb asn range.last (omega (arith, leb-true asn (min range.last last) both.1))))) ∙ sym not
      ]

      by_so_far : (asn last : ℕ) → nat_le asn last ≡ true → (so_far : Bool) → so_far ≡ is_in_ranges (take i ranges) asn → asn ≤ last
          → ((so_far && nat_le asn last) || new_bit asn last) ≡ ((so_far || is_in_range asn (slice_index_or ranges i e)) && nat_le asn last)
      by_so_far asn last low true is below = ap (λ (b : Bool). b || new_bit asn last) low ∙ sym low
      by_so_far asn last low false is below =
          alone asn last (sym is) below
          ∙ sym (ap (λ (b : Bool). is_in_range asn (slice_index_or ranges i e) && b) low ∙ and-true (is_in_range asn (slice_index_or ranges i e)))

      joined : (asn last : ℕ) (so_far : Bool) → so_far ≡ is_in_ranges (take i ranges) asn
          → ((so_far && nat_le asn last) || new_bit asn last) ≡ ((so_far || is_in_range asn (slice_index_or ranges i e)) && nat_le asn last)
      joined asn last so_far is = elim (cases_lt last asn) [
        | inl past ↦
            let late = lt-leb asn last past in
            let no_bit = and_right (nat_le (max (slice_index_or ranges i e).first reach) asn) _ (lt-leb asn (min (slice_index_or ranges i e).last last) (omega (arith, past))) in
            ap (λ (b : Bool). b || new_bit asn last) (and_right so_far _ late)
            ∙ (no_bit ∙ sym (and_right (so_far || is_in_range asn (slice_index_or ranges i e)) _ late))
        | inr low ↦ by_so_far asn last (le-leb asn last (omega (arith, low))) so_far is low
      ]
