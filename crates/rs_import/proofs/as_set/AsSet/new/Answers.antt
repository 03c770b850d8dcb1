use Rattle.std.proofs.Common.{sym, subst, List, ℕ, rules}
use Rattle.std.proofs.lemmas.List.Sorted.{IsNonDecreasingBy-from_sort_by_key, list_any-IsPermutation}
use Rattle.rs_types.specs.declared.as_range.AsRange.{AsRange}
use Rattle.rs_import.specs.AsRanges.{is_in_range}
use Rattle.rs_import.specs.Bits.{AreBits}
use Rattle.rs_import.specs.Blocks.{AreStarts}
use Rattle.rs_import.specs.Reaches.{AreInOrder, AreReaches}
use Rattle.rs_import.proofs.as_set.AsSet.new.Goals as goal

pub of-requires : goal.of-requires
of-requires c =
    subst (λ (l : List AsRange). AreInOrder l) (sym c.as_slice-ranges.ensures.value)
    (IsNonDecreasingBy-from_sort_by_key (λ (range : AsRange). range.first) _ c.in_ok-sort_by_key.ensures.sorted (λ a r q k. search rules))

pub bits_of-requires-clause-order : goal.bits_of-requires-clause-order
bits_of-requires-clause-order c =
    subst (λ (l : List AsRange). AreInOrder l) (sym c.as_slice-ranges.ensures.value)
    (IsNonDecreasingBy-from_sort_by_key (λ (range : AsRange). range.first) _ c.in_ok-sort_by_key.ensures.sorted (λ a r q k. search rules))

pub bits_of-requires-clause-reaches : goal.bits_of-requires-clause-reaches
bits_of-requires-clause-reaches c =
    subst (λ (l : List ℕ). AreReaches c.as_slice-ranges.result.now l) (sym c.deref.ensures.value) c.in_ok-reaches.ensures

pub invariant_of-result : goal.invariant_of-result
invariant_of-result c = (
  IsNonDecreasingBy-from_sort_by_key (λ (range : AsRange). range.first) _ c.in_ok-sort_by_key.ensures.sorted (λ a r q k. search rules),
  subst (λ (l : List AsRange). AreReaches l c.in_ok-reaches.reaches.items) c.as_slice-ranges.ensures.value c.in_ok-reaches.ensures,
  subst (λ (l : List AsRange). AreStarts (λ (range : AsRange). range.first) l c.in_ok-blocks.blocks.shift c.in_ok-blocks.blocks.starts.items)
      c.as_slice-ranges.ensures.value c.in_ok-blocks.ensures,
  subst (λ (l : List AsRange). AreBits l c.in_ok-bits.bits.words.items) c.as_slice-ranges.ensures.value c.in_ok-bits.ensures,
)

pub returns-clause-same : goal.returns-clause-same
returns-clause-same c = λ asn. sym (list_any-IsPermutation (is_in_range asn) _ _ c.in_ok-sort_by_key.ensures.permutation)
