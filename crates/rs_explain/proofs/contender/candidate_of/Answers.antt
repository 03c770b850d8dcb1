use Rattle.std.proofs.Common.{◌∙◌, sym}
use Rattle.rs_table.specs.RouteView.{sent_route_of}
use Rattle.rs_explain.proofs.ContenderLemmas.{none_filtered, none_refused}
use Rattle.rs_explain.proofs.contender.candidate_of.Goals as goal

pub returns-then-not-permits-clause-value : goal.returns-then-not-permits-clause-value
returns-then-not-permits-clause-value c =
    none_refused c.args.plan.now c.args.client c.args.prefix (sent_route_of c.args.route.now) (sym c.permits.ensures ∙ c.if-not-permits.true)

pub returns-then-not-accepts-clause-value : goal.returns-then-not-accepts-clause-value
returns-then-not-accepts-clause-value c =
    none_filtered c.args.plan.now c.args.client c.args.prefix (sent_route_of c.args.route.now)
    (sym c.accepts.ensures ∙ c.if-not-accepts.true)
