-- One prefix more was passed, on which the choices are the same.
use Rattle.std.proofs.Common.{◌≡◌, ◌∙◌, sym, ap, subst, rules, true}
use Rattle.rs_survey.specs.Differences.{ClientOf, choice_on, route_of}
use Rattle.rs_survey.specs.RowsToCome.{GetsNoneBetween}
use Rattle.rs_survey.proofs.DifferenceLemmas.{chosen-is, one-passed}
use Rattle.rs_survey.proofs.differences.DifferencesIterator.next.Goals as goal

pub returns-then-not-is_same-clause-goes : goal.returns-then-not-is_same-clause-goes
returns-then-not-is_same-clause-goes c = search rules

pub loop-one-preserved : goal.loop-one-preserved
loop-one-preserved c =
    let old = c.self.inside.rows in
    let mid = c.loop-one.self-inside.rows in
    let new = c.next.new.self in
    let one = c.in-Some.one in
    let held = c.loop-one.invariant in
    let steps = c.in-Some.ensures.steps in
    let yes : c.is_same.result ≡ true = search rules in
    let alike : choice_on old.before one.prefix ≡ choice_on old.after one.prefix =
    sym (chosen-is old.before c.plan.result.now one.before one.prefix
    (c.plan.ensures ∙ ap (λ tables. tables.plan) c.tables.ensures.before)
    (steps.2.before ∙ ap (λ (client : ClientOf). route_of client one.prefix) held.before))
    ∙ c.is_same.ensures.same yes
    ∙ chosen-is old.after c.plan-in-Some.result.now one.after one.prefix
    (c.plan-in-Some.ensures ∙ ap (λ tables. tables.plan) c.tables.ensures.after)
    (steps.2.after ∙ ap (λ (client : ClientOf). route_of client one.prefix) held.after) in
    record {
      before = steps.0 ∙ held.before;
      after = steps.1 ∙ held.after;
      passed =
          one-passed old.before old.after old.last mid.last held.passed one.prefix steps.2.next.behind
          (subst (λ (client : ClientOf). GetsNoneBetween client mid.last one.prefix) held.before steps.2.next.none_before)
          (subst (λ (client : ClientOf). GetsNoneBetween client mid.last one.prefix) held.after steps.2.next.none_after)
          alike new.last steps.2.last;
      room = c.is_same.ensures.room;
      left = search rules;
    }
