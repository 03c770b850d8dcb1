-- By the reason, or by what is decided.
use Rattle.std.proofs.Common.{◌≡◌, ◌∙◌, ◌==◌, ap, sym, arith, false}
use Rattle.std.specs.Prelude.{None, Some}
use Rattle.std.proofs.lemmas.Bool.Decides.{nat_tests}
use Rattle.std.proofs.lemmas.Result.{IfOk-weaker}
use Rattle.rs_table.specs.RouteView.{sent_route_of}
use Rattle.rs_table.specs.Table.{route_from}
use Rattle.rs_explain.specs.declared.contender.Contender.{Contender}
use Rattle.rs_explain.specs.Explanations.{reason_before_decision}
use Rattle.rs_explain.proofs.AgreementLemmas.{agrees}
use Rattle.rs_explain.proofs.ExplainLemmas.{by_decision, by_reason, candidate_is, own_peer, reason_is}
use Rattle.rs_explain.proofs.explanation.explain_other.Goals as goal

pub returns-in-Some-reason-clause-explains : goal.returns-in-Some-reason-clause-explains
returns-in-Some-reason-clause-explains c =
    let tables = c.args.tables.now in
    let client = c.args.client in
    let peer = c.args.peer in
    let prefix = c.args.on.now.prefix in
    let route = sent_route_of c.in-Some.route in
    let is : Some route ≡ route_from tables prefix peer = c.in-Some.ensures ∙ c.requires.routes.routes c.args.peer c.requires.peer_known in
    let differ : (client == peer) ≡ false = grind (arith, nat_tests, c.requires.differ) in
    let found : reason_before_decision tables client peer prefix ≡ Some c.in-Some-reason.reason =
    reason_is tables client peer prefix c.plan.result.now route c.plan.ensures differ is ∙ sym c.reason.ensures ∙ c.in-Some-reason.is in
    by_reason tables client peer prefix c.in-Some-reason.reason found

pub returns-in-Some-reason-clause-agrees : goal.returns-in-Some-reason-clause-agrees
returns-in-Some-reason-clause-agrees c =
    let tables = c.args.tables.now in
    let client = c.args.client in
    let peer = c.args.peer in
    let prefix = c.args.on.now.prefix in
    let route = sent_route_of c.in-Some.route in
    let is : Some route ≡ route_from tables prefix peer = c.in-Some.ensures ∙ c.requires.routes.routes c.args.peer c.requires.peer_known in
    let differ : (client == peer) ≡ false = grind (arith, nat_tests, c.requires.differ) in
    let found : reason_before_decision tables client peer prefix ≡ Some c.in-Some-reason.reason =
    reason_is tables client peer prefix c.plan.result.now route c.plan.ensures differ is ∙ sym c.reason.ensures ∙ c.in-Some-reason.is in
    agrees tables client peer prefix c.in-Some-reason.reason c.requires.client_known c.requires.peer_known
    (by_reason tables client peer prefix c.in-Some-reason.reason found)

pub decided_on-requires-clause-candidate : goal.decided_on-requires-clause-candidate
decided_on-requires-clause-candidate c =
    let tables = c.args.tables.now in
    let client = c.args.client in
    let peer = c.args.peer in
    let prefix = c.args.on.now.prefix in
    let route = sent_route_of c.in-Some.route in
    let is : Some route ≡ route_from tables prefix peer = c.in-Some.ensures ∙ c.requires.routes.routes c.args.peer c.requires.peer_known in
    let differ : (client == peer) ≡ false = grind (arith, nat_tests, c.requires.differ) in
    let none : reason_before_decision tables client peer prefix ≡ None =
    reason_is tables client peer prefix c.plan.result.now route c.plan.ensures differ is ∙ sym c.reason.ensures ∙ c.in_default-reason.is in
    candidate_is tables client peer prefix c.plan-2.result.now route c.contender_of-one.result c.requires.client_known c.requires.peer_known
    differ is none c.plan-2.ensures c.contender_of-one.ensures.value

pub returns-clause-explains : goal.returns-clause-explains
returns-clause-explains c =
    let tables = c.args.tables.now in
    let client = c.args.client in
    let peer = c.args.peer in
    let prefix = c.args.on.now.prefix in
    let route = sent_route_of c.in-Some.route in
    let is : Some route ≡ route_from tables prefix peer = c.in-Some.ensures ∙ c.requires.routes.routes c.args.peer c.requires.peer_known in
    let differ : (client == peer) ≡ false = grind (arith, nat_tests, c.requires.differ) in
    let none : reason_before_decision tables client peer prefix ≡ None =
    reason_is tables client peer prefix c.plan.result.now route c.plan.ensures differ is ∙ sym c.reason.ensures ∙ c.in_default-reason.is in
    let own : c.contender_of-one.result.peer ≡ peer =
    ap (λ (one : Contender). one.peer) c.contender_of-one.ensures.value ∙ own_peer tables client peer prefix route is in
    IfOk-weaker c.decided_on.result _ _
    (λ explanation decided. by_decision tables client peer prefix explanation c.contender_of-one.result.peer none own decided)
    c.decided_on.ensures

pub returns-clause-agrees : goal.returns-clause-agrees
returns-clause-agrees c =
    let tables = c.args.tables.now in
    let client = c.args.client in
    let peer = c.args.peer in
    let prefix = c.args.on.now.prefix in
    let route = sent_route_of c.in-Some.route in
    let is : Some route ≡ route_from tables prefix peer = c.in-Some.ensures ∙ c.requires.routes.routes c.args.peer c.requires.peer_known in
    let differ : (client == peer) ≡ false = grind (arith, nat_tests, c.requires.differ) in
    let none : reason_before_decision tables client peer prefix ≡ None =
    reason_is tables client peer prefix c.plan.result.now route c.plan.ensures differ is ∙ sym c.reason.ensures ∙ c.in_default-reason.is in
    let own : c.contender_of-one.result.peer ≡ peer =
    ap (λ (one : Contender). one.peer) c.contender_of-one.ensures.value ∙ own_peer tables client peer prefix route is in
    IfOk-weaker c.decided_on.result _ _
    (λ explanation decided. agrees tables client peer prefix explanation c.requires.client_known c.requires.peer_known
    (by_decision tables client peer prefix explanation c.contender_of-one.result.peer none own decided))
    c.decided_on.ensures
