use Rattle.std.proofs.Common.{◌∙◌, ◌-◌, ap, sym, arith, ℕ, List, ◌∷◌, drop, length, rules}
use Rattle.std.proofs.lemmas.List.{take_all, length-drop}
use Rattle.rs_types.specs.Numbers.{numbers_at}
use Rattle.rs_types.specs.Shapes.{numbers_in}
use Rattle.rs_types.proofs.fields.ProgressLemmas.{one_less}
use Rattle.rs_types.proofs.fields.SegmentLemmas.{numbers_at-step, numbers_at-none}
use Rattle.rs_types.proofs.number_list.NumbersIterator.next.Goals as goal

pub returns-then-self-eq0-clause-steps : goal.returns-then-self-eq0-clause-steps
returns-then-self-eq0-clause-steps c =
    let none = numbers_at-none c.args.self.now.count c.args.self.now.octets.now c.if-self-eq0.true in
    (none, none)

pub returns : goal.returns
returns c =
    let octets = c.args.self.now.octets.now in
    let step =
    numbers_at-step c.args.self.now.count octets c.if-self-eq0.false
    ∙ ap (λ (number : ℕ). number ∷ numbers_at (c.args.self.now.count - 1) (drop 4 octets)) (sym c.number_at-number.ensures)
    ∙ ap (λ (rest : List ℕ). c.number_at-number.result ∷ numbers_at (c.args.self.now.count - 1) rest)
    (sym (take_all (length octets - 4) (drop 4 octets) (omega (arith, length-drop 4 octets)))) in
    record { steps = step; goes = one_less numbers_in _ _ _ _ step }

pub invariant_of-self : goal.invariant_of-self
invariant_of-self c = search rules
