use Rattle.std.proofs.Common.{◌∙◌, sym, subst, List, rules}
use Rattle.std.specs.List.Sorted.{IsNonDecreasingBy}
use Rattle.std.proofs.lemmas.List.Sorted.{IsNonDecreasingBy-from_sort_by_key}
use Rattle.rs_types.specs.declared.pattern.Pattern.{Pattern}
use Rattle.rs_import.specs.Nesting.{rank_of}
use Rattle.rs_import.proofs.prefix_set.PrefixSet.new.Goals as goal

abbrev InOrder : List Pattern → Type 0
InOrder patterns = IsNonDecreasingBy (λ (pattern : Pattern). rank_of pattern.prefix) patterns

pub nesting_of-requires-clause-order : goal.nesting_of-requires-clause-order
nesting_of-requires-clause-order c =
    subst InOrder (sym c.deref.ensures.value)
    (IsNonDecreasingBy-from_sort_by_key (λ (pattern : Pattern). rank_of pattern.prefix) _ c.in_ok-sort_by_key.ensures.sorted
    (λ a r q k. search rules))

pub invariant_of-result : goal.invariant_of-result
invariant_of-result c =
    subst InOrder (sym (c.in_ok-nesting.ensures ∙ c.deref.ensures.value))
    (IsNonDecreasingBy-from_sort_by_key (λ (pattern : Pattern). rank_of pattern.prefix) _ c.in_ok-sort_by_key.ensures.sorted
    (λ a r q k. search rules))

pub returns-clause-order : goal.returns-clause-order
returns-clause-order c =
    subst InOrder (sym (c.in_ok-nesting.ensures ∙ c.deref.ensures.value))
    (IsNonDecreasingBy-from_sort_by_key (λ (pattern : Pattern). rank_of pattern.prefix) _ c.in_ok-sort_by_key.ensures.sorted
    (λ a r q k. search rules))
