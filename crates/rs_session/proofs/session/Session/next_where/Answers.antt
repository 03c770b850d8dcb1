-- Behind what was passed over comes what a step gives.
use Rattle.std.proofs.Common.{◌≡◌, ◌∙◌, refl, sym, ap, true, false, rules}
use Rattle.std.proofs.lemmas.Result.{err_from_is_err_and}
use Rattle.rs_session.specs.Stage.{Stage}
use Rattle.rs_session.proofs.PassingLemmas.{behind-nothing, behind-more, says-given, says-closed, says-refused, says-none}
use Rattle.rs_session.proofs.StageLemmas.{fewer-gives}
use Rattle.rs_session.proofs.session.Session.next_where.Goals as goal

pub loop-self-init : goal.loop-self-init
loop-self-init g c = record {
  behind = behind-nothing _ _ c.args.only.now c.args.self.now;
  passed = refl;
  failures = refl;
  goes_on = λ last stopped. stopped;
  unread = λ closed. refl;
  closed = refl;
  fewer = search rules;
}

pub returns-in_err-word-clause-says : goal.returns-in_err-word-clause-says
returns-in_err-word-clause-says g c =
    let refused = err_from_is_err_and c.from_residual.result c.from_residual.ensures.1 in
    let same = rw c.in_err-word.was at c.give_waiting.ensures.err in
    rw refused.1
    (says-refused _ _ c.args.only.now c.args.self.now c.give_waiting.new.self refused.0 (rw same c.loop-self.invariant.behind)
    (ap (λ (stage : Stage g.row.S.Denot). stage.passed) same ∙ c.loop-self.invariant.passed))

pub returns-in-Some-clause-says : goal.returns-in-Some-clause-says
returns-in-Some-clause-says g c =
    says-given _ _ c.args.only.now c.args.self.now c.loop-self.self c.give_waiting.new.self c.in-Some.word c.loop-self.invariant.behind
    (sym (ap (λ (stage : Stage g.row.S.Denot). stage.closed) c.self.view_is) ∙ c.loop-self-test.true)
    (rw c.in-Some.is at c.in_ok-word.ensures.ok)

pub returns-in-Some-clause-fewer : goal.returns-in-Some-clause-fewer
returns-in-Some-clause-fewer g c =
    fewer-gives g.S.Source.room g.S.Source.shows c.args.self.now c.loop-self.self c.give_waiting.new.self c.in-Some.word
    c.loop-self.invariant.fewer (rw c.in-Some.is at c.in_ok-word.ensures.ok)

pub returns-in_err-close-clause-says : goal.returns-in_err-close-clause-says
returns-in_err-close-clause-says g c =
    let refused = err_from_is_err_and c.from_residual-in_err-close.result c.from_residual-in_err-close.ensures.1 in
    let says = rw c.in_err-close.was at c.step.ensures.says in
    let idle = rw c.in_default.is at c.in_ok-word.ensures.ok in
    let behind = behind-more _ _ c.args.only.now c.args.self.now c.give_waiting.new.self c.step.new.self says.over
    (rw idle.1 c.loop-self.invariant.behind) says.may_pass says.steps.0 in
    rw refused.1
    (says-refused _ _ c.args.only.now c.args.self.now c.step.new.self refused.0 behind
    (says.steps.2 ∙ ap (λ (stage : Stage g.row.S.Denot). stage.passed) idle.1 ∙ c.loop-self.invariant.passed))

pub returns-in-Some-2-clause-says : goal.returns-in-Some-2-clause-says
returns-in-Some-2-clause-says g c =
    let says = rw c.in-Some-2.is at c.in_ok-close.ensures.says in
    let idle = rw c.in_default.is at c.in_ok-word.ensures.ok in
    says-closed _ _ c.args.only.now c.args.self.now c.give_waiting.new.self c.step.new.self c.in-Some-2.close
    (rw idle.1 c.loop-self.invariant.behind) says

pub loop-self-preserved : goal.loop-self-preserved
loop-self-preserved g c =
    let says = rw c.in_default-2.is at c.in_ok-close.ensures.says in
    let failures = rw c.in_default-2.is at c.in_ok-close.ensures.failures in
    let goes_on = rw c.in_default-2.is at c.in_ok-close.ensures.goes_on in
    let idle = rw c.in_default.is at c.in_ok-word.ensures.ok in
    let r = c.loop-self.invariant in
    let unclosed : c.args.self.now.closed ≡ false =
    sym r.closed ∙ sym (ap (λ (stage : Stage g.row.S.Denot). stage.closed) c.self.view_is) ∙ c.loop-self-test.true in
    record {
      behind = behind-more _ _ c.args.only.now c.args.self.now c.give_waiting.new.self c.step.new.self says.over (rw idle.1 r.behind)
          says.may_pass says.steps.0;
      passed = says.steps.2 ∙ ap (λ (stage : Stage g.row.S.Denot). stage.passed) idle.1 ∙ r.passed;
      failures = search rules;
      goes_on = search rules;
      unread = λ closed. absurd (let no : false ≡ true = sym says.steps.1 ∙ closed in cc);
      closed = says.steps.1 ∙ sym unclosed;
      fewer = search rules;
    }

pub returns-clause-says : goal.returns-clause-says
returns-clause-says g c =
    let closed = sym (ap (λ (stage : Stage g.row.S.Denot). stage.closed) c.self.view_is) ∙ c.loop-self-test.false in
    says-none _ _ c.args.only.now c.args.self.now c.loop-self.self (c.loop-self.invariant.unread closed) closed
