use Rattle.std.proofs.Common.{◌≡◌, ◌∙◌, ◌∷◌, [], sym, map, subst}
use Rattle.std.specs.Prelude.{Some}
use Rattle.rs_choice.specs.Clients.{chosen_for}
use Rattle.rs_table.specs.Table.{is_from}
use Rattle.rs_survey.specs.declared.finding.Finding.TheVariants.{Lost, Removed}
use Rattle.rs_survey.specs.Grows.{Grows}
use Rattle.rs_survey.specs.Seen.{sent_of_seen}
use Rattle.rs_survey.proofs.CountLemmas.{best_is, is_best_from, lost_is}
use Rattle.rs_survey.proofs.GrowthLemmas.{grows_then}
use Rattle.rs_survey.proofs.counting.count_candidate.Goals as goal

pub returns-then-is_best : goal.returns-then-is_best
returns-then-is_best c =
    let plan = c.args.plan.now in
    let routes = map sent_of_seen c.args.seen.now in
    let route = sent_of_seen c.args.one.now in
    let from : c.is_best.result ≡ is_from route.peer (chosen_for plan c.args.client routes) =
    is_best_from plan route.peer (chosen_for plan c.args.client routes) c.args.best.now c.is_best.result c.is_best.ensures c.requires.best
    in
    subst (Grows c.args.tally.now c.add.new.self) (sym (best_is plan routes c.args.client route (sym from
    ∙ c.if-is_best.true))) c.add.ensures

pub returns-in-Some : goal.returns-in-Some
returns-in-Some c =
    let plan = c.args.plan.now in
    let routes = map sent_of_seen c.args.seen.now in
    let route = sent_of_seen c.args.one.now in
    let from : c.is_best.result ≡ is_from route.peer (chosen_for plan c.args.client routes) =
    is_best_from plan route.peer (chosen_for plan c.args.client routes) c.args.best.now c.is_best.result c.is_best.ensures c.requires.best
    in
    subst (Grows c.args.tally.now c.add-in-Some.new.self)
    (sym (lost_is plan routes c.args.client route (Some c.in-Some.step) (sym from ∙ c.if-is_best.false) c.in-Some.ensures))
    (grows_then c.args.tally.now c.add-2.new.self c.add-in-Some.new.self (Lost c.args.client route.peer ∷ []) (Removed c.in-Some.step ∷ [])
    c.add-2.ensures c.add-in-Some.ensures)
