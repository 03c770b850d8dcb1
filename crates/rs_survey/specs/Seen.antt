-- The routes on a prefix, as a summary stores them.
use Rattle.std.specs.Prelude.{◌≡◌, ◌<◌, ℕ, ◌&&◌, Bool, false, if◌then◌else◌, length, Option, None, Some}
use Rattle.std.specs.Option.{option_map, option_map_or}
use Rattle.rs_choice.specs.declared.candidate.Candidate.{Candidate}
use Rattle.rs_choice.specs.declared.candidate.Standing.{Standing}
use Rattle.rs_choice.specs.declared.step.Step.{Step}
use Rattle.rs_choice.specs.declared.step.Step.TheVariants as steps
use Rattle.rs_update.specs.IpPrefix.{IpPrefix}
use Rattle.rs_choice.specs.Acceptance.{filter_on}
use Rattle.rs_choice.specs.Clients.{is_sent_to}
use Rattle.rs_choice.specs.Decision.{SentRoute, beats, standing_of}
use Rattle.rs_choice.specs.Eligibility.{is_eligible}
use Rattle.rs_choice.specs.Plan.{Plan}
use Rattle.rs_choice.specs.Policy.{is_permitted, may_refuse}
use Rattle.rs_table.specs.RouteView.{sent_route_of}
use Rattle.rs_explain.specs.Reasons.{failed_condition, kind_of}
use Rattle.rs_explain.specs.Removals.{beats_by_med}
use Rattle.rs_survey.specs.declared.seen.Seen.{Seen}

abbrev pub sent_of_seen : Seen → SentRoute
sent_of_seen seen = sent_route_of seen.route

-- what is stored of a route is true
pub record IsSeen (plan : Plan) (seen : Seen) : Type 0 where
  pub known : seen.route.peer < length plan.peers
  pub standing : seen.standing ≡ standing_of plan (sent_of_seen seen)
  pub failed : seen.failed ≡ option_map kind_of (failed_condition plan seen.route.peer seen.route.attributes.now)
  pub restricted : seen.restricted ≡ may_refuse plan seen.route.attributes.now

-- what is stored says which filter of import policy does not take the route in on a prefix
abbrev pub IsFilteredOn : Plan → IpPrefix → Seen → Type 0
IsFilteredOn plan prefix seen = seen.filter ≡ filter_on plan seen.route.peer prefix seen.route.attributes.now

-- the route `other` is a candidate of the client, which gets `best`, and it removes `one` by MED
abbrev pub keeps_out : Plan → ℕ → Standing → Standing → SentRoute → Bool
keeps_out plan client best one other =
    is_eligible plan other.peer other.attributes
    && (beats_by_med best one (standing_of plan other) && is_sent_to plan client other)

-- the first step at which the best one beats another, or MED if another candidate removed it there
abbrev pub step_by : Standing → Standing → Bool → Option Step
step_by best one kept_out =
    if beats steps.Preference best one then Some steps.Preference
    else if beats steps.PathLength best one then Some steps.PathLength
    else if beats steps.Origin best one then Some steps.Origin
    else if kept_out then Some steps.Med
    else if beats steps.Identifier best one then Some steps.Identifier
    else if beats steps.Address best one then Some steps.Address
    else None

-- a stored route as a candidate
abbrev pub candidate_of_seen : Seen → Candidate
candidate_of_seen seen = record { peer = seen.route.peer; attributes = seen.route.attributes }

-- whether a candidate, if there is one, is permitted to a client
abbrev pub is_open_to : Plan → Option Candidate → ℕ → Bool
is_open_to plan candidate client =
    option_map_or (λ one. is_permitted plan client one.peer one.attributes.now) candidate false
