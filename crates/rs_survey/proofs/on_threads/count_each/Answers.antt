use Rattle.std.proofs.Common.{◌<◌, ◌≤◌, ◌∙◌, [], List, arith, length, map, subst}
use Rattle.std.specs.List.{flat_map}
use Rattle.std.proofs.lemmas.List.{take_all}
use Rattle.rs_table.specs.declared.prefix_routes.PrefixRoutes.{PrefixRoutes}
use Rattle.rs_survey.specs.Grows.{Grows}
use Rattle.rs_survey.specs.Counted.{counted_on}
use Rattle.rs_survey.specs.Tally.{IsTally}
use Rattle.rs_survey.proofs.GrowthLemmas.{grows-more}
use Rattle.rs_survey.proofs.on_threads.count_each.Goals as goal

pub loop-on-preserved : goal.loop-on-preserved
loop-on-preserved c =
    let found = counted_on c.args.tables.now c.args.what in
    let within : c.loop-on.on-index < length c.args.some.now = omega arith in
    grows-more found (λ on. on.prefix) c.args.some.now c.loop-on.on-index c.on-item.result c.in_ok-tally.tally c.loop-on.tally
    c.count_findings.new.tally within c.loop-on.invariant
    (subst (λ (on : PrefixRoutes). Grows c.loop-on.tally c.count_findings.new.tally (found on.prefix)) c.on-item.is
    c.in_ok-count_findings.ensures)

pub returns : goal.returns
returns c =
    let ends : length c.args.some.now ≤ c.loop-on.on-index = omega (arith, c.loop-on-test.false) in
    record {
      peers = c.loop-on.invariant.peers ∙ c.in_ok-tally.ensures.peers ∙ c.count.ensures.peers;
      counts = subst (λ (list : List PrefixRoutes). IsTally c.loop-on.tally
          (flat_map (counted_on c.args.tables.now c.args.what) (map (λ on. on.prefix) list)))
          (take_all c.loop-on.on-index c.args.some.now ends) (c.loop-on.invariant.counts [] c.in_ok-tally.ensures.none);
    }
