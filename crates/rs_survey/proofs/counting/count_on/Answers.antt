use Rattle.std.proofs.Common.{◌≡◌, ◌∙◌, ◌∷◌, [], Bool, List, false, ap, arith, length, map, subst, sym}
use Rattle.std.specs.Prelude.{filter, is_none}
use Rattle.std.specs.List.{All, flat_map}
use Rattle.std.specs.Option.{option_map_or}
use Rattle.std.proofs.lemmas.List.Elements.{All-filter}
use Rattle.std.proofs.lemmas.List.Sums.{count_by-le-length, length-filter}
use Rattle.rs_choice.specs.Acceptance.{accepted_among}
use Rattle.rs_choice.specs.Clients.{is_sent_to}
use Rattle.rs_choice.specs.Decision.{SentRoute}
use Rattle.rs_choice.specs.Plan.{Plan}
use Rattle.rs_table.specs.Table.{accepted_on, routes_on}
use Rattle.rs_survey.specs.declared.finding.Finding.TheVariants.{Hidden}
use Rattle.rs_survey.specs.declared.seen.Seen.{Seen}
use Rattle.rs_survey.specs.Grows.{Grows}
use Rattle.rs_survey.specs.Seen.{IsSeen, is_open_to, sent_of_seen}
use Rattle.rs_survey.specs.Summary.{all_clients, findings_among, findings_on, for_client, hidden_if, is_hiding, of_route, shared_choice}
use Rattle.rs_survey.specs.Tally.{TallyContent}
use Rattle.rs_survey.proofs.GrowthLemmas.{grows_none, grows_then}
use Rattle.rs_survey.proofs.SeenLemmas.{taken_are}
use Rattle.rs_survey.proofs.counting.count_on.Goals as goal
use Rattle.rs_survey.proofs.counting.count_on.Goals.{then-is_hiding, else-is_hiding}

-- a route that is taken in
abbrev is_in : Seen → Bool
is_in one = is_none one.filter

pub count_clients-requires-clause-seen : goal.count_clients-requires-clause-seen
count_clients-requires-clause-seen c =
    let plan = c.args.tables.now.plan in
    let seen = c.in_ok-seen.seen.items in
    let passed : c.deref-3.result.now ≡ filter is_in seen =
    c.deref-3.ensures.value ∙ c.in_ok-taken.ensures ∙ ap (filter is_in) c.deref-2.ensures.value in
    subst (All (IsSeen plan)) (sym passed) (All-filter is_in (IsSeen plan) seen c.in_ok-seen.ensures.seen)

pub count_clients-requires-clause-same : goal.count_clients-requires-clause-same
count_clients-requires-clause-same c =
    let plan = c.args.tables.now.plan in
    let prefix = c.args.on.now.prefix in
    let seen = c.in_ok-seen.seen.items in
    let passed : c.deref-3.result.now ≡ filter is_in seen =
    c.deref-3.ensures.value ∙ c.in_ok-taken.ensures ∙ ap (filter is_in) c.deref-2.ensures.value in
    ap (map sent_of_seen) passed ∙ taken_are plan prefix seen c.in_ok-seen.ensures.filtered
    ∙ ap (accepted_among plan prefix) c.in_ok-seen.ensures.routes

pub shared_choice-requires-clause-seen : goal.shared_choice-requires-clause-seen
shared_choice-requires-clause-seen c =
    let plan = c.args.tables.now.plan in
    let seen = c.in_ok-seen.seen.items in
    let passed : c.deref-4.result.now ≡ filter is_in seen =
    c.deref-4.ensures.value ∙ c.in_ok-taken.ensures ∙ ap (filter is_in) c.deref-2.ensures.value in
    subst (λ (plan : Plan). All (IsSeen plan) c.deref-4.result.now) (sym c.plan-plan.ensures)
    (subst (All (IsSeen plan)) (sym passed) (All-filter is_in (IsSeen plan) seen c.in_ok-seen.ensures.seen))

pub shared_choice-requires-clause-bound : goal.shared_choice-requires-clause-bound
shared_choice-requires-clause-bound c =
    let seen = c.in_ok-seen.seen.items in
    let passed : c.deref-4.result.now ≡ filter is_in seen =
    c.deref-4.ensures.value ∙ c.in_ok-taken.ensures ∙ ap (filter is_in) c.deref-2.ensures.value in
    omega (arith, ap length passed, length-filter is_in seen, count_by-le-length is_in seen, c.in_ok-seen.ensures.bound)

pub is_hiding-requires-clause-shared : goal.is_hiding-requires-clause-shared
is_hiding-requires-clause-shared c = λ client.
    let tables = c.args.tables.now in
    let prefix = c.args.on.now.prefix in
    let seen = c.in_ok-seen.seen.items in
    let passed : c.deref-4.result.now ≡ filter is_in seen =
    c.deref-4.ensures.value ∙ c.in_ok-taken.ensures ∙ ap (filter is_in) c.deref-2.ensures.value in
    let again : map sent_of_seen c.deref-4.result.now ≡ accepted_on tables prefix =
    ap (map sent_of_seen) passed ∙ taken_are tables.plan prefix seen c.in_ok-seen.ensures.filtered
    ∙ ap (accepted_among tables.plan prefix) c.in_ok-seen.ensures.routes in
    let IsSo : Plan → List SentRoute → Type 0 = λ plan routes.
    is_open_to plan c.in_ok-shared.shared client ≡ option_map_or (is_sent_to plan client) (shared_choice plan routes) false in
    subst (IsSo tables.plan) again
    (subst (λ (plan : Plan). IsSo plan (map sent_of_seen c.deref-4.result.now)) c.plan-plan.ensures (c.in_ok-shared.ensures.sent client))

pub returns : goal.returns
unfolding findings_on findings_among
returns c =
    let tables = c.args.tables.now in
    let plan = tables.plan in
    let prefix = c.args.on.now.prefix in
    let routes = routes_on prefix tables.ribs in
    let taken = accepted_on tables prefix in
    let before = c.args.tally.now in
    let first = c.count_routes.new.tally in
    let second = c.count_clients.new.tally in
    let third = c.if-is_hiding.tally in
    let listed : map sent_of_seen c.deref.result.now ≡ routes = ap (map sent_of_seen) c.deref.ensures.value ∙ c.in_ok-seen.ensures.routes in
    let by_routes : Grows before first (flat_map (of_route plan prefix) routes) =
    subst (Grows before first) (λ i. flat_map (of_route (c.plan-plan.ensures i) prefix) (listed i)) c.count_routes.ensures in
    let passed : c.deref-3.result.now ≡ filter is_in c.in_ok-seen.seen.items =
    c.deref-3.ensures.value ∙ c.in_ok-taken.ensures ∙ ap (filter is_in) c.deref-2.ensures.value in
    let again : map sent_of_seen c.deref-3.result.now ≡ taken =
    ap (map sent_of_seen) passed ∙ taken_are plan prefix c.in_ok-seen.seen.items c.in_ok-seen.ensures.filtered
    ∙ ap (accepted_among plan prefix) c.in_ok-seen.ensures.routes in
    let by_clients : Grows first second (flat_map (for_client plan taken) (all_clients plan)) =
    subst (Grows first second) (λ i. flat_map (for_client plan (again i)) (all_clients plan)) c.count_clients.ensures in
    let by_hiding : Grows second third (hidden_if (is_hiding plan taken)) =
    elim c.if-is_hiding.branch [
      | then-is_hiding w ↦
          subst (λ hides. Grows second third (hidden_if hides)) (sym w.if-is_hiding.true ∙ c.is_hiding.ensures)
          (subst (λ (tally : TallyContent). Grows second tally (Hidden ∷ [])) (sym w.tally-is) w.add.ensures)
      | else-is_hiding w ↦
          subst (λ hides. Grows second third (hidden_if hides)) (sym w.if-is_hiding.false ∙ c.is_hiding.ensures)
          (subst (λ (tally : TallyContent). Grows second tally []) (sym w.tally-is) (grows_none second))
    ] in
    grows_then before first third _ _ by_routes (grows_then first second third _ _ by_clients by_hiding)
