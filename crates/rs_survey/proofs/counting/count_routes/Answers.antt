use Rattle.std.proofs.Common.{◌<◌, arith, length, subst}
use Rattle.rs_survey.specs.declared.seen.Seen.{Seen}
use Rattle.rs_survey.specs.Grows.{Grows}
use Rattle.rs_survey.specs.Seen.{sent_of_seen}
use Rattle.rs_survey.specs.Summary.{of_route}
use Rattle.rs_survey.proofs.GrowthLemmas.{grows-more}
use Rattle.rs_survey.proofs.counting.count_routes.Goals as goal

pub loop-one-preserved : goal.loop-one-preserved
loop-one-preserved c =
    let found = of_route c.args.plan.now c.args.prefix in
    let within : c.loop-one.one-index < length c.args.seen.now = omega arith in
    grows-more found sent_of_seen c.args.seen.now c.loop-one.one-index c.one-item.result c.args.tally.now c.loop-one.tally
    c.count_route.new.tally within c.loop-one.invariant
    (subst (λ (one : Seen). Grows c.loop-one.tally c.count_route.new.tally (found (sent_of_seen one))) c.one-item.is c.count_route.ensures)
