use Rattle.std.proofs.Common.{◌<◌, ◌∷◌, [], arith, length, subst}
use Rattle.std.specs.List.{filter_map}
use Rattle.rs_survey.specs.declared.on_prefix.MissingRoute.{MissingRoute}
use Rattle.rs_survey.specs.Grows.{Grows}
use Rattle.rs_survey.specs.MissingCounts.{counted_of}
use Rattle.rs_survey.proofs.MissingCountLemmas.{grows-one}
use Rattle.rs_survey.proofs.missing_counts.count_routes.Goals as goal

pub loop-one-preserved : goal.loop-one-preserved
loop-one-preserved c =
    let within : c.loop-one.one-index < length c.args.routes.now = omega arith in
    grows-one c.args.routes.now c.loop-one.one-index c.one-item.result c.args.tally.now c.loop-one.tally c.count_route.new.tally within
    c.loop-one.invariant
    (subst (λ (one : MissingRoute). Grows c.loop-one.tally c.count_route.new.tally (filter_map counted_of (one ∷ []))) c.one-item.is
    c.count_route.ensures)
