use Rattle.std.proofs.Common.{sym, subst, List}
use Rattle.rs_types.specs.declared.pattern.Pattern.{Pattern}
use Rattle.rs_import.specs.Nesting.{IsNotBefore}
use Rattle.rs_import.proofs.SetLemmas.{front-not_before}
use Rattle.rs_import.proofs.prefix_set.nesting_of.Goals as goal

pub push-requires-clause-order : goal.push-requires-clause-order
push-requires-clause-order c =
    let x = c.pattern-item.result in
    subst (λ (l : List Pattern). IsNotBefore l x) (sym c.loop-pattern.invariant)
    (front-not_before c.args.patterns.now c.loop-pattern.pattern-index x c.requires.order c.loop-pattern-test.true c.pattern-item.is)
