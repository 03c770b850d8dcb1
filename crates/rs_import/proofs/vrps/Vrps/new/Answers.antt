use Rattle.std.proofs.Common.{◌∙◌, sym, subst, List, rules}
use Rattle.std.specs.List.Sorted.{IsNonDecreasingBy}
use Rattle.std.proofs.lemmas.List.Sorted.{IsNonDecreasingBy-from_sort_by_key}
use Rattle.std.proofs.lemmas.Result.{IfOk-weaker}
use Rattle.rs_types.specs.declared.vrp.Vrp.{Vrp}
use Rattle.rs_import.specs.Nesting.{rank_of}
use Rattle.rs_import.proofs.vrps.Vrps.new.Goals as goal

abbrev InOrder : List Vrp → Type 0
InOrder vrps = IsNonDecreasingBy (λ (vrp : Vrp). rank_of vrp.prefix) vrps

pub table_of-requires-clause-order : goal.table_of-requires-clause-order
table_of-requires-clause-order c =
    subst InOrder (sym c.deref.ensures.value)
    (IsNonDecreasingBy-from_sort_by_key (λ (vrp : Vrp). rank_of vrp.prefix) _ c.in_ok-sort_by_key.ensures.sorted (λ a r q k. search rules))

pub returns-clause-order : goal.returns-clause-order
returns-clause-order c =
    let rising = IsNonDecreasingBy-from_sort_by_key (λ (vrp : Vrp). rank_of vrp.prefix) _ c.in_ok-sort_by_key.ensures.sorted
    (λ a r q k. search rules) in
    IfOk-weaker c.table_of.result _ InOrder (λ table same. subst InOrder (sym (same ∙ c.deref.ensures.value)) rising) c.table_of.ensures
