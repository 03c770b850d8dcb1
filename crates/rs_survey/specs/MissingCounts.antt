-- How many routes of each sender a client does not get, for each reason (RFC 4271, section 9.1; RFC 7947, section 2.3).
use Rattle.std.specs.Prelude.{ℕ, if◌then◌else◌, List, [], Option, is_none, map}
use Rattle.std.specs.List.{filter_map, flat_map}
use Rattle.std.specs.Option.{option_map, option_or}
use Rattle.rs_update.specs.IpPrefix.{IpPrefix}
use Rattle.rs_choice.specs.Acceptance.{filter_on}
use Rattle.rs_choice.specs.Decision.{decision_steps, standing_of}
use Rattle.rs_table.specs.Content.{TablesContent}
use Rattle.rs_table.specs.Table.{TableRow, best_of, candidates_of, prefixes_held}
use Rattle.rs_explain.specs.declared.missing_reason.MissingReason.{MissingReason}
use Rattle.rs_explain.specs.declared.missing_reason.MissingReason.TheVariants.{Ineligible, Filtered, Lost}
use Rattle.rs_explain.specs.MissingReasons.{reason_in, reason_of_refusal}
use Rattle.rs_explain.specs.Reasons.{failed_condition, kind_of, refusal_of}
use Rattle.rs_survey.specs.declared.finding.Finding.{Finding}
use Rattle.rs_survey.specs.declared.finding.Finding.TheVariants.{Missing}
use Rattle.rs_survey.specs.declared.on_prefix.MissingRoute.{MissingRoute}
use Rattle.rs_survey.specs.Missing.{missing_of, missing_on}
use Rattle.rs_survey.specs.Summary.{removed_at}

-- The reason why a client does not get a route of another peer. The first that applies counts:
-- - The first condition of eligibility that the route fails.
-- - The filter of import policy that does not take it in.
-- - The rule of export policy that refuses it.
-- - The step of the decision process that removes it.
abbrev pub reason_for : TablesContent → ℕ → TableRow → Option MissingReason
reason_for tables client row =
    option_or (option_map (λ condition. Ineligible (kind_of condition))
    (failed_condition tables.plan row.route.peer row.route.attributes))
    (option_or (option_map (λ filter. Filtered filter)
    (filter_on tables.plan row.route.peer row.prefix row.route.attributes))
    (option_or (option_map reason_of_refusal (refusal_of tables.plan client row.route.peer row.route.attributes))
    (option_map (λ step. Lost step)
    (removed_at (standing_of tables.plan) decision_steps (candidates_of tables client row.prefix) row.route))))

-- the finding for a route that a client does not get
abbrev pub missing_finding : TablesContent → ℕ → TableRow → Option Finding
missing_finding tables client row = option_map (Missing row.route.peer) (reason_for tables client row)

-- the findings for the routes on a prefix
abbrev pub missing_findings_on : TablesContent → ℕ → Option ℕ → IpPrefix → List Finding
missing_findings_on tables client from prefix =
    filter_map (missing_finding tables client)
    (map (λ route. record { prefix = prefix; route = route }) (missing_on tables client from prefix))

-- the findings for all routes that the client does not get
abbrev pub missing_findings : TablesContent → ℕ → Option ℕ → List Finding
missing_findings tables client from = filter_map (missing_finding tables client) (missing_of tables client from)

-- the findings for the routes on a prefix, if the client gets no route on it at all
abbrev pub unserved_findings_on : TablesContent → ℕ → Option ℕ → IpPrefix → List Finding
unserved_findings_on tables client from prefix =
    if is_none (best_of tables client prefix) then missing_findings_on tables client from prefix else []

-- the findings for the routes on all prefixes on which the client gets no route
abbrev pub unserved_findings : TablesContent → ℕ → Option ℕ → List Finding
unserved_findings tables client from = flat_map (unserved_findings_on tables client from) (prefixes_held tables.ribs)

-- ---- the finding for a route, by its explanation

abbrev pub counted_of : MissingRoute → Option Finding
counted_of one = option_map (Missing one.route.peer) (reason_in one.explanation)
