use Rattle.std.proofs.Common.{◌≡◌, ◌∙◌, sym, ap, map}
use Rattle.std.specs.List.{list_any}
use Rattle.rs_choice.specs.Clients.{chosen_for}
use Rattle.rs_choice.specs.Decision.{standing_of}
use Rattle.rs_explain.specs.declared.contender.Contender.{Contender}
use Rattle.rs_explain.specs.Contenders.{contender_of}
use Rattle.rs_survey.specs.Seen.{keeps_out, sent_of_seen, step_by}
use Rattle.rs_survey.proofs.RemovingLemmas.{made_of, made_of_none, none_removed, step_is}
use Rattle.rs_survey.proofs.removing.removing_step.Goals as goal

pub returns-in-None : goal.returns-in-None
returns-in-None c =
    let plan = c.args.plan.now in
    let routes = map sent_of_seen c.args.seen.now in
    none_removed c.the_choice_is_unbeaten.ensures.member plan c.args.client routes (sent_of_seen c.args.one.now)
    (made_of_none (contender_of plan) (chosen_for plan c.args.client routes) (sym c.in-None.is ∙ c.requires.best))

pub returns-in-Some : goal.returns-in-Some
returns-in-Some c =
    let plan = c.args.plan.now in
    let client = c.args.client in
    let seen = c.args.seen.now in
    let one = sent_of_seen c.args.one.now in
    let found = made_of (contender_of plan) (chosen_for plan client (map sent_of_seen seen)) c.in-Some.best
    (sym c.in-Some.is ∙ c.requires.best) in
    let best : c.in-Some.best.standing ≡ standing_of plan found.0 = ap (λ (best : Contender). best.standing) found.2 in
    let loser : c.args.one.now.standing ≡ standing_of plan one = c.requires.one.standing in
    c.step_by_best.ensures
    ∙ (λ i. step_by (best i) (loser i) (list_any (λ other. keeps_out plan client (best i) (loser i) (sent_of_seen other)) seen))
    ∙ step_is plan client seen found.0 one found.1
