-- Ranges in order: whether one has a number, by how far they reach.
use Rattle.std.proofs.Common.{◌≡◌, ◌∙◌, cond, sym, ap, subst, refl, ℕ, ◌+◌, ◌≤◌, ◌<◌, inl, inr, List, [], ◌∷◌, ◌++◌, length, max, arith}
use Rattle.std.proofs.Common.{slice_index_or}
use Rattle.std.specs.Prelude.{nat_le, nat_lt}
use Rattle.std.specs.List.{AllWithin, HoldsAt}
use Rattle.std.specs.Ordering.{is_lt, nat_cmp, ord_max}
use Rattle.std.specs.declared.cmp.Ordering.{Ordering}
use Rattle.std.specs.declared.cmp.Ordering.TheVariants.{Less, Equal, Greater}
use Rattle.std.proofs.lemmas.Cmp.{ranked}
use Rattle.std.proofs.lemmas.Bool.{and_from, and_left, and_right, cases_Bool, cases_lt, le-leb, le-ltb, leb-false, leb-true, lt-leb}
use Rattle.std.proofs.lemmas.List.{get_or_append_left, get_or_default, get_or_push}
use Rattle.std.proofs.lemmas.List.Folds.{list_any_at, list_any_none}
use Rattle.rs_types.specs.declared.as_range.AsRange.{AsRange}
use Rattle.rs_import.specs.AsRanges.{is_in_range, is_in_ranges}
use Rattle.rs_import.specs.Reaches.{IsReach}

no_range : AsRange
no_range = record { first = 0; last = 0 }

-- the first ranges, so many, do not begin behind the number, and the others do
module _ (ranges : List AsRange) (count asn : ℕ)
    (up_to : AllWithin (λ range. range.first ≤ asn) ranges 0 count)
    (behind : AllWithin (λ range. asn < range.first) ranges count (length ranges)) where
  pub has-none : count ≤ 0 → nat_lt 0 count ≡ is_in_ranges ranges asn
  has-none none =
      le-ltb 0 count none
      ∙ sym (list_any_none (is_in_range asn) ranges (λ k d inside. and_left _ _ (lt-leb (slice_index_or ranges k d).first asn (behind k d (omega (arith, none)) inside))))

  pub has-by_reach : (reach : ℕ) → count ≤ length ranges → IsReach ranges count reach → nat_le asn reach ≡ is_in_ranges ranges asn
  has-by_reach reach within is = elim (cases_Bool (nat_le asn reach)) [
    | inl near ↦
        let begins = le-leb (slice_index_or ranges is.1.0 no_range).first asn (up_to is.1.0 no_range (omega arith) is.1.1) in
        let last = (slice_index_or ranges is.1.0 no_range).last in
        let ends = le-leb asn last (omega (arith, leb-true asn reach near, is.1.2 no_range)) in
        near ∙ sym (list_any_at (is_in_range asn) ranges is.1.0 no_range (omega (arith, is.1.1, within)) (and_from _ _ begins ends))
    | inr far ↦
        far ∙ sym (list_any_none (is_in_range asn) ranges (λ k d inside. elim (cases_lt k count) [
          | inl first ↦ and_right _ _ (lt-leb asn (slice_index_or ranges k d).last (omega (arith, leb-false asn reach far, is.0 k d (omega arith) first)))
          | inr later ↦ and_left _ _ (lt-leb (slice_index_or ranges k d).first asn (behind k d later inside))
        ]))
  ]

-- the greater of two numbers
pub greater-is : (one other : ℕ) → ord_max nat_cmp one other ≡ max one other
greater-is one other = by_order (nat_cmp other one) refl
  where
    by_order : (order : Ordering) → order ≡ nat_cmp other one → cond (is_lt order) one other ≡ max one other
    by_order Less is = omega (arith, ranked other one Less is)
    by_order Equal is = omega (arith, ranked other one Equal is)
    by_order Greater is = omega (arith, ranked other one Greater is)

-- one range more
pub reach-more : (ranges : List AsRange) (i reach : ℕ) (e : AsRange) → i < length ranges
    → (i ≡ 0 → reach ≡ 0) → (0 < i → IsReach ranges i reach) → IsReach ranges (i + 1) (ord_max nat_cmp reach (slice_index_or ranges i e).last)
reach-more ranges i reach e inside start before =
    subst (λ (n : ℕ). IsReach ranges (i + 1) n) (sym (greater-is reach (slice_index_or ranges i e).last)) (
      λ k d from low. elim (cases_lt k i) [
        | inl first ↦ omega (arith, (before (omega (arith, first))).0 k d (omega arith) first)
        | inr next ↦ omega (arith, last-at k d (omega (arith, low, next)))
      ],
      elim (cases_lt (slice_index_or ranges i e).last reach) [
        | inl less ↦ elim (cases_lt 0 i) [
          | inl some ↦ let old = (before some).1 in (old.0, omega (arith, old.1), λ d. omega (arith, old.2 d, less))
          | inr none ↦ absurd (omega (arith, less, start (omega (arith, none))))
        ]
        | inr further ↦ (i, omega arith, λ d. omega (arith, last-at i d refl, further))
      ],
    )
  where
    last-at : (k : ℕ) (d : AsRange) → k ≡ i → (slice_index_or ranges k d).last ≡ (slice_index_or ranges i e).last
    last-at k d same =
        ap (λ (n : ℕ). (slice_index_or ranges n d).last) same ∙ ap (λ (range : AsRange). range.last) (get_or_default ranges i d e inside)

pub reaches-push : (ranges : List AsRange) (reaches : List ℕ) (i next : ℕ) → length reaches ≡ i
    → ((k : ℕ) → k < i → HoldsAt (λ reach. IsReach ranges (k + 1) reach) reaches k) → IsReach ranges (i + 1) next
    → (k : ℕ) → k < i + 1 → HoldsAt (λ reach. IsReach ranges (k + 1) reach) (reaches ++ next ∷ []) k
reaches-push ranges reaches i next many before last k low d = elim (cases_lt k i) [
  | inl first ↦
      subst (λ (n : ℕ). IsReach ranges (k + 1) n) (sym (get_or_append_left reaches (next ∷ []) d k (omega (arith, first, many)))) (before k first d)
  | inr more ↦
      let same : i ≡ k = omega (arith, low, more) in
      subst (λ (n : ℕ). IsReach ranges (k + 1) n) (sym (get_or_push reaches next d k (many ∙ same)))
      (subst (λ (n : ℕ). IsReach ranges (n + 1) next) same last)
]
