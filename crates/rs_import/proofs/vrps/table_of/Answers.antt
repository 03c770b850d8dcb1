use Rattle.std.proofs.Common.{◌∙◌, sym, ap, subst, List, map, take, ℕ}
use Rattle.std.proofs.lemmas.List.{take_all}
use Rattle.rs_types.specs.declared.pattern.Pattern.{Pattern}
use Rattle.rs_import.specs.Nesting.{IsNotBefore}
use Rattle.rs_import.specs.VrpsView.{pattern_of_vrp, vrps_of}
use Rattle.rs_import.proofs.VrpLemmas.{vrp-not_before, vrps-itself}
use Rattle.rs_import.proofs.vrps.table_of.Goals as goal

pub push-requires-clause-order : goal.push-requires-clause-order
push-requires-clause-order c =
    let x = c.vrp-item.result in
    let front = take c.loop-vrp.vrp-index c.args.vrps.now in
    subst (λ (one : Pattern). IsNotBefore c.loop-vrp.nesting one) (sym c.pattern_of.ensures)
    (subst (λ (l : List Pattern). IsNotBefore l (pattern_of_vrp x)) (sym c.loop-vrp.invariant.0)
    (vrp-not_before c.args.vrps.now c.loop-vrp.vrp-index x c.requires.order c.loop-vrp-test.true c.vrp-item.is))

pub returns : goal.returns
returns c =
    let front = take c.loop-vrp.vrp-index c.args.vrps.now in
    ap (λ (l : List Pattern). vrps_of l c.loop-vrp.asns.items) (c.in_ok-nesting-2.ensures ∙ c.loop-vrp.invariant.0)
    ∙ (ap (λ (l : List ℕ). vrps_of (map pattern_of_vrp front) l) c.loop-vrp.invariant.1
    ∙ (vrps-itself front ∙ take_all c.loop-vrp.vrp-index c.args.vrps.now c.loop-vrp-test.false))
