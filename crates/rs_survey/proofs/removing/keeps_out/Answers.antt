use Rattle.std.proofs.Common.{◌∙◌, sym, ap}
use Rattle.rs_choice.specs.Clients.{is_sent_to}
use Rattle.rs_choice.specs.declared.candidate.Standing.{Standing}
use Rattle.rs_choice.specs.declared.step.Step.TheVariants as steps
use Rattle.rs_choice.specs.Decision.{beats, standing_of}
use Rattle.rs_choice.specs.Eligibility.{is_eligible}
use Rattle.rs_explain.specs.Removals.{beats_by_med}
use Rattle.rs_survey.specs.Seen.{sent_of_seen}
use Rattle.rs_survey.proofs.SeenLemmas.{eligible_seen, first_fails, not_by_med, not_some_none, second_fails, some_not_none, third_decides}
use Rattle.rs_survey.proofs.removing.keeps_out.Goals as goal

pub returns-then-not-beats : goal.returns-then-not-beats
returns-then-not-beats c =
    let plan = c.args.plan.now in
    let other = c.args.other.now in
    let sent = sent_of_seen other in
    second_fails (is_eligible plan other.route.peer other.route.attributes.now)
    (beats_by_med c.args.best.now c.args.one.now (standing_of plan sent)) (is_sent_to plan c.args.client sent)
    (not_by_med c.args.best.now c.args.one.now (standing_of plan sent)
    (ap (λ (standing : Standing). beats steps.Med standing c.args.one.now) (sym c.requires.seen.standing) ∙ sym c.beats.ensures
    ∙ c.if-not-beats.true))

pub returns-then-is_some : goal.returns-then-is_some
returns-then-is_some c =
    let plan = c.args.plan.now in
    let other = c.args.other.now in
    first_fails (is_eligible plan other.route.peer other.route.attributes.now)
    (beats_by_med c.args.best.now c.args.one.now (standing_of plan (sent_of_seen other))) (is_sent_to plan c.args.client
    (sent_of_seen other))
    (eligible_seen plan other c.requires.seen ∙ some_not_none other.failed (sym c.is_some.ensures ∙ c.if-is_some.true))

pub returns-then-not-beats_by_med : goal.returns-then-not-beats_by_med
returns-then-not-beats_by_med c =
    let plan = c.args.plan.now in
    let other = c.args.other.now in
    second_fails (is_eligible plan other.route.peer other.route.attributes.now)
    (beats_by_med c.args.best.now c.args.one.now (standing_of plan (sent_of_seen other))) (is_sent_to plan c.args.client
    (sent_of_seen other))
    (ap (beats_by_med c.args.best.now c.args.one.now) (sym c.requires.seen.standing) ∙ sym c.beats_by_med.ensures
    ∙ c.if-not-beats_by_med.true)

pub returns : goal.returns
returns c =
    let plan = c.args.plan.now in
    let other = c.args.other.now in
    c.permits.ensures
    ∙ third_decides (is_eligible plan other.route.peer other.route.attributes.now)
    (beats_by_med c.args.best.now c.args.one.now (standing_of plan (sent_of_seen other)))
    (is_sent_to plan c.args.client (sent_of_seen other))
    (eligible_seen plan other c.requires.seen ∙ not_some_none other.failed (sym c.is_some.ensures ∙ c.if-is_some.false))
    (ap (beats_by_med c.args.best.now c.args.one.now) (sym c.requires.seen.standing) ∙ sym c.beats_by_med.ensures
    ∙ c.if-not-beats_by_med.false)
