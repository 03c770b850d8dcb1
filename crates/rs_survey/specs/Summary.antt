-- The findings of a summary: on one prefix, and on all (RFC 4271, section 9.1; RFC 7947, sections 2.3 and 2.3.1).
use Rattle.std.specs.Prelude.{ℕ, ◌==◌, ◌&&◌, ◌||◌, ◌++◌, Bool, false, not, if◌then◌else◌, List, [], ◌∷◌, length}
use Rattle.std.specs.Prelude.{Option, None, Some, is_some}
use Rattle.std.specs.List.{flat_map, list_any, range_with_len}
use Rattle.std.specs.Option.{option_map, option_map_or, option_or, option_to_list}
use Rattle.rs_update.specs.IpPrefix.{IpPrefix}
use Rattle.rs_choice.specs.declared.candidate.Standing.{Standing}
use Rattle.rs_choice.specs.declared.step.Step.{Step}
use Rattle.rs_choice.specs.Clients.{candidates_among, chosen_for, eligible_among, is_sent_to}
use Rattle.rs_choice.specs.Decision.{SentRoute, beats, choice, decision_steps, standing_of, unbeaten}
use Rattle.rs_choice.specs.Plan.{Plan}
use Rattle.rs_table.specs.Content.{TablesContent}
use Rattle.rs_table.specs.Table.{accepted_on, is_from, prefixes_held, routes_on}
use Rattle.rs_import.specs.declared.filter.Filter.{Filter}
use Rattle.rs_choice.specs.Acceptance.{filter_on}
use Rattle.rs_explain.specs.declared.condition.ConditionKind.{ConditionKind}
use Rattle.rs_explain.specs.Reasons.{failed_condition, kind_of}
use Rattle.rs_survey.specs.declared.finding.Finding.{Finding}
use Rattle.rs_survey.specs.declared.finding.Finding.TheVariants.{Left, Ineligible, Filtered, Refused, Lost, Best}
use Rattle.rs_survey.specs.declared.finding.Finding.TheVariants.{Removed, Hidden}

-- the step that removes a member of a set: the first at which a member left by the earlier steps beats it
unfoldable pub removed_at : {M : Type 0} → (M → Standing) → List Step → List M → M → Option Step
removed_at standing [] set one = None
removed_at standing (step ∷ later) set one =
    if list_any (λ other. beats step (standing other) (standing one)) set then Some step
    else removed_at standing later (unbeaten standing step set) one

-- The finding for a route that may be a candidate of nobody: the first condition of eligibility that it fails, or else
-- the filter that does not take it in.
abbrev pub unfit : ℕ → Option ConditionKind → Option Filter → Option Finding
unfit sender failed filter =
    option_or (option_map (λ condition. Ineligible sender condition) failed)
    (option_map (λ filter. Filtered sender filter) filter)

-- the findings for a route on a prefix by itself: a peer has left it, and it may be a candidate of nobody
abbrev pub of_route : Plan → IpPrefix → SentRoute → List Finding
of_route plan prefix route =
    Left route.peer ∷ option_to_list (unfit route.peer
    (option_map kind_of (failed_condition plan route.peer route.attributes))
    (filter_on plan route.peer prefix route.attributes))

-- the finding for a candidate of a client: the client gets it, or a step removes it
abbrev pub of_candidate : Plan → List SentRoute → ℕ → SentRoute → List Finding
of_candidate plan routes client route =
    if is_from route.peer (chosen_for plan client routes) then Best client route.peer ∷ []
    else Lost client route.peer ∷ option_to_list (option_map (λ step. Removed step)
    (removed_at (standing_of plan) decision_steps (candidates_among plan client routes) route))

-- the findings for a route and a client, by all routes on the prefix that are taken in; none for the client's own route or an
-- ineligible one
abbrev pub to_client : Plan → List SentRoute → ℕ → SentRoute → List Finding
to_client plan routes client route =
    if (client == route.peer) || is_some (failed_condition plan route.peer route.attributes) then []
    else if not (is_sent_to plan client route) then Refused client route.peer ∷ []
    else of_candidate plan routes client route

unfoldable pub for_client : Plan → List SentRoute → ℕ → List Finding
for_client plan routes client = flat_map (to_client plan routes client) routes

-- the choice if there were one decision for all clients: the one among all eligible routes that are taken in
abbrev pub shared_choice : Plan → List SentRoute → Option SentRoute
shared_choice plan routes = choice (standing_of plan) (eligible_among plan routes)

-- The client gets a route, but would get none if there were only the one choice for all clients, and policy applied
-- to it.
abbrev pub is_hidden_from : Plan → List SentRoute → ℕ → Bool
is_hidden_from plan routes client =
    is_some (chosen_for plan client routes)
    && not (option_map_or (is_sent_to plan client) (shared_choice plan routes) false)

abbrev pub all_clients : Plan → List ℕ
all_clients plan = range_with_len 0 (length plan.peers)

unfoldable pub is_hiding : Plan → List SentRoute → Bool
is_hiding plan routes = list_any (is_hidden_from plan routes) (all_clients plan)

abbrev pub hidden_if : Bool → List Finding
hidden_if hides = if hides then Hidden ∷ [] else []

-- the findings for the routes on one prefix that are taken in
unfoldable pub findings_among : Plan → List SentRoute → List Finding
findings_among plan taken =
    flat_map (for_client plan taken) (all_clients plan) ++ hidden_if (is_hiding plan taken)

-- the findings for all routes on one prefix
unfoldable pub findings_on : TablesContent → IpPrefix → List Finding
findings_on tables prefix =
    flat_map (of_route tables.plan prefix) (routes_on prefix tables.ribs)
    ++ findings_among tables.plan (accepted_on tables prefix)

-- the findings for all prefixes on which some peer has left a route
unfoldable pub findings_of : TablesContent → List Finding
findings_of tables = flat_map (findings_on tables) (prefixes_held tables.ribs)
