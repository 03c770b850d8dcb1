-- The candidate reaches one step more, or has a rival there.
use Rattle.std.proofs.Common.{◌≡◌, ◌∙◌, ◌+◌, ◌++◌, ◌∷◌, sym, refl, subst, get_or, take, drop, List}
use Rattle.std.specs.List.{Contains}
use Rattle.std.specs.Prelude.{None}
use Rattle.rs_choice.specs.declared.step.Step.{Step}
use Rattle.rs_choice.specs.declared.step.Step.TheVariants as steps
use Rattle.rs_choice.specs.Decision.{decision_steps, remaining}
use Rattle.rs_explain.specs.declared.contender.Contender.{Contender}
use Rattle.rs_explain.specs.Contenders.{standing_in}
use Rattle.rs_explain.specs.Removals.{rival_of}
use Rattle.rs_explain.proofs.RemovalLemmas.{remaining-none, remaining-more, steps-around, left_without_rival}
use Rattle.rs_explain.proofs.removal.removed_by.Goals as goal

pub loop-step-init : goal.loop-step-init
loop-step-init c =
    subst (λ (left : List Contender). Contains left c.args.loser.now) (remaining-none c.args.set.now) c.requires.inside

pub returns-in-Some : goal.returns-in-Some
returns-in-Some c =
    let i = c.loop-step.step-index in
    let step : Step = get_or c.args.steps.now i steps.Preference in
    let before = take i c.args.steps.now in
    let after = drop (i + 1) c.args.steps.now in
    let order : decision_steps ≡ before ++ step ∷ after =
    sym c.requires.steps ∙ steps-around c.args.steps.now i steps.Preference c.loop-step-test.true in
    record {
      before = before;
      after = after;
      order = order;
      removed = refl;
      reaches = c.loop-step.invariant;
      rival = sym (c.rival.ensures before after order) ∙ c.in-Some.is;
    }

pub loop-step-preserved : goal.loop-step-preserved
loop-step-preserved c =
    let i = c.loop-step.step-index in
    let step : Step = get_or c.args.steps.now i steps.Preference in
    let before = take i c.args.steps.now in
    let after = drop (i + 1) c.args.steps.now in
    let order : decision_steps ≡ before ++ step ∷ after =
    sym c.requires.steps ∙ steps-around c.args.steps.now i steps.Preference c.loop-step-test.true in
    let none : rival_of step c.args.best.now (remaining standing_in before c.args.set.now) c.args.loser.now ≡ None =
    sym (c.rival.ensures before after order) ∙ c.in_default.is in
    subst (λ (left : List Contender). Contains left c.args.loser.now)
    (remaining-more c.args.steps.now i steps.Preference c.args.set.now c.loop-step-test.true)
    (left_without_rival step c.args.best.now c.args.loser.now (remaining standing_in before c.args.set.now) none c.loop-step.invariant)
