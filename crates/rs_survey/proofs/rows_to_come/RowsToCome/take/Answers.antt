-- The first row is taken where it is on the prefix, and else stays.
use Rattle.std.proofs.Common.{◌≡◌, ◌∙◌, None, Some, ap, rules, subst, sym}
use Rattle.rs_survey.specs.Differences.{IsBehind, route_of}
use Rattle.rs_survey.specs.RowsToCome.{Ahead, GetsNoneBetween}
use Rattle.rs_survey.proofs.RowLemmas.{after-none, after-other, after-taken, none-on}
use Rattle.rs_survey.proofs.rows_to_come.RowsToCome.take.Goals as goal

pub invariant_of-self : goal.invariant_of-self
invariant_of-self c =
    let none : c.self.inside.first ≡ None = search rules in
    let gone : c.take.new.self ≡ None = search rules in
    after-none c.self.inside c.self.invariant c.args.prefix
    (subst (λ (ahead : Ahead). IsBehind ahead.last c.args.prefix) (sym c.self.view_is) c.requires.behind) none c.take.new.self gone

pub invariant_of-self-then-eq : goal.invariant_of-self-then-eq
invariant_of-self-then-eq c =
    let found : c.self.inside.first ≡ Some c.in-Some.row = search rules in
    let same : c.in-Some.row.prefix ≡ c.args.prefix = search rules in
    after-taken c.self.inside c.self.invariant c.in-Some.row found c.args.prefix same c.next_row-self-inside.result
    c.next_row-self-inside.new.rows c.next_row-self-inside.ensures

pub invariant_of-self-else-eq : goal.invariant_of-self-else-eq
invariant_of-self-else-eq c =
    let found : c.self.inside.first ≡ Some c.in-Some.row = search rules in
    let apart : c.in-Some.row.prefix ≡ c.args.prefix → ⊥ = search rules in
    after-other c.self.inside c.self.invariant c.args.prefix
    (subst (λ (ahead : Ahead). IsBehind ahead.last c.args.prefix) (sym c.self.view_is) c.requires.behind) c.in-Some.row found
    (subst (λ (ahead : Ahead). GetsNoneBetween ahead.whose ahead.last c.args.prefix) (sym c.self.view_is) c.requires.first) apart

pub returns-else-eq-clause-route : goal.returns-else-eq-clause-route
returns-else-eq-clause-route c =
    let found : c.self.inside.first ≡ Some c.in-Some.row = search rules in
    let apart : c.in-Some.row.prefix ≡ c.args.prefix → ⊥ = search rules in
    none-on c.self.inside c.self.invariant c.args.prefix
    (subst (λ (ahead : Ahead). IsBehind ahead.last c.args.prefix) (sym c.self.view_is) c.requires.behind) c.in-Some.row found
    (subst (λ (ahead : Ahead). GetsNoneBetween ahead.whose ahead.last c.args.prefix) (sym c.self.view_is) c.requires.first) apart
    ∙ ap (λ (ahead : Ahead). route_of ahead.whose c.args.prefix) c.self.view_is
