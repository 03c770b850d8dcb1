-- The routes that take part in a decision, by their fields.
use Rattle.std.specs.Prelude.{◌<◌, ℕ, List, length, map, slice_get}
use Rattle.std.specs.List.{All, filter_map}
use Rattle.rs_choice.specs.declared.candidate.Standing.{Standing}
use Rattle.rs_choice.specs.declared.held_route.HeldRoute.{HeldRoute}
use Rattle.rs_choice.specs.declared.entrants.Listed.TheInside as listed
use Rattle.rs_choice.specs.declared.entrants.Chosen.TheInside as chosen
use Rattle.rs_choice.specs.Decision.{standing_of_candidate, standing_of}
use Rattle.rs_choice.specs.Held.{sent_of_held, AreCandidates, IsJudged}
use Rattle.rs_choice.specs.Plan.{Plan}

-- the standings of the candidates in a list
abbrev pub listed_view : listed.Inside → List Standing
listed_view fields = map (standing_of_candidate fields.plan.now) fields.candidates.now

abbrev pub AreKnown : listed.Inside → Type 0
AreKnown fields = All (λ candidate. candidate.peer < length fields.plan.now.peers) fields.candidates.now

-- the routes at some places of a list
abbrev pub chosen_of : List HeldRoute → List ℕ → List HeldRoute
chosen_of held places = filter_map (slice_get held) places

-- The standing of a stored route; below, the standings of routes at some places of a list. Each place is in the
-- list, its route may be a candidate, and what is stored of the route is true.
abbrev pub standing_of_held : Plan → HeldRoute → Standing
standing_of_held plan held = standing_of plan (sent_of_held held)

abbrev pub chosen_view : chosen.Inside → List Standing
chosen_view fields = map (standing_of_held fields.plan.now) (chosen_of fields.held.now fields.places.now)

pub record AreHeld (fields : chosen.Inside) : Type 0 where
  pub within : All (λ place. place < length fields.held.now) fields.places.now
  pub judged : All (IsJudged fields.plan.now) fields.held.now
  pub fit : AreCandidates (chosen_of fields.held.now fields.places.now)
