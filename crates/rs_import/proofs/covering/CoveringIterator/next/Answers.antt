use Rattle.std.proofs.Common.{◌≡◌, ◌∙◌, sym, ap, arith, ◌<◌, ◌-◌, true, rules, length, List, ◌∷◌}
use Rattle.rs_types.specs.declared.vrp.Vrp.{Vrp}
use Rattle.rs_import.specs.Rpki.{is_covering}
use Rattle.rs_import.proofs.SearchLemmas.{filter-first, filter-walk}
use Rattle.rs_import.proofs.VrpLemmas.{no_vrp}
use Rattle.rs_import.proofs.covering.CoveringIterator.next.Goals as goal

pub returns-clause-steps : goal.returns-clause-steps
returns-clause-steps c =
    let q = c.self.inside.prefix in
    let vrps = c.self.inside.vrps.now in
    let count = c.self.inside.count in
    let x = c.vrp-vrp.result in
    let some : 0 < count = omega (arith, c.if-self-eq0.false) in
    let passes : is_covering q x ≡ true =
    ap (is_covering q) c.vrp-vrp.ensures ∙ c.self.invariant.1 some (count - 1) x (omega arith) (omega (arith, some)) in
    sym c.self.view_is
    ∙ (filter-first (is_covering q) vrps count x some c.self.invariant.0 c.vrp-vrp.ensures passes
    ∙ ap (λ (l : List Vrp). x ∷ l)
    (filter-walk (is_covering q) (is_covering q) (λ vrp apart. apart) vrps no_vrp c.next-self-inside.result (count - 1)
    c.next-self-inside.ensures.0 (omega (arith, c.self.invariant.0)) c.next-self-inside.ensures.1))

pub returns-clause-goes : goal.returns-clause-goes
returns-clause-goes c =
    let one_less = ap length (returns-clause-steps c) in
    record { on = λ finite. (search rules, search rules, omega (arith, one_less)); keeps = search rules; rests = search rules }
