use Rattle.std.proofs.Common.{◌∙◌, ◌<◌, length, map, subst, sym}
use Rattle.std.specs.Prelude.{IfSome}
use Rattle.rs_choice.specs.Plan.{Plan}
use Rattle.rs_table.specs.Table.{accepted_on}
use Rattle.rs_survey.specs.Grows.{Grows}
use Rattle.rs_survey.specs.Seen.{sent_of_seen}
use Rattle.rs_survey.specs.Summary.{for_client}
use Rattle.rs_survey.proofs.CountLemmas.{best_peer_known}
use Rattle.rs_survey.proofs.GrowthLemmas.{grows-number}
use Rattle.rs_survey.proofs.counting.count_clients.Goals as goal

pub contender-best-requires : goal.contender-best-requires
contender-best-requires c =
    let tables = c.args.tables.now in
    subst (λ (plan : Plan). IfSome c.best.result (λ one. one.peer < length plan.peers)) (sym c.plan-plan.ensures)
    (best_peer_known tables.plan c.loop-client.client (accepted_on tables c.args.on.now.prefix) c.best.result
    (c.best.ensures ∙ c.requires.routes.bests c.loop-client.client))

pub loop-client-preserved : goal.loop-client-preserved
loop-client-preserved c =
    let routes = map sent_of_seen c.args.seen.now in
    let client = c.loop-client.client in
    grows-number (for_client c.args.tables.now.plan routes) client c.args.tally.now c.loop-client.tally c.count_for.new.tally
    c.loop-client.invariant
    (subst (λ (plan : Plan). Grows c.loop-client.tally c.count_for.new.tally (for_client plan routes client)) c.plan-plan.ensures
    c.count_for.ensures)
