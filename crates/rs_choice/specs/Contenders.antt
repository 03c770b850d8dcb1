-- The candidates of a client, without some that other candidates outdo (RFC 4271, section 9.1.2.2; RFC 7947, section
-- 2.3.2.1).
use Rattle.std.specs.Prelude.{◌≡◌, ◌⊎◌, ℕ, IsTrue, IsFalse, List, Option, None, Some}
use Rattle.rs_choice.specs.declared.candidate.Standing.{Standing}
use Rattle.rs_choice.specs.declared.held_route.HeldRoute.{HeldRoute}
use Rattle.rs_choice.specs.Clients.{candidates_among, chosen_for, is_sent_to}
use Rattle.rs_choice.specs.Comparison.{Outdoes}
use Rattle.rs_choice.specs.Decision.{SentRoute, choice, standing_of}
use Rattle.rs_choice.specs.Entrants.{chosen_of}
use Rattle.rs_choice.specs.Held.{taken_in, AreCandidates}
use Rattle.rs_choice.specs.Plan.{Plan}
use Rattle.rs_choice.specs.Sharing.{sents_at, ArePlaces}

-- places of routes that may be candidates in a list; all candidates of the client are among these routes
pub record HoldCandidates (plan : Plan) (client : ℕ) (held : List HeldRoute) (places : List ℕ) : Type 0 where
  pub within : ArePlaces held places
  pub fit : AreCandidates (chosen_of held places)
  pub same : candidates_among plan client (sents_at held places)
      ≡ candidates_among plan client (taken_in held)

-- the other route outdoes this route; false if there is no other route
abbrev pub IsOutdone : Standing → Option Standing → Type 0
IsOutdone standing None = ⊥
IsOutdone standing (Some other) = Outdoes other standing

-- The answer for a route that may be a candidate. Some standing: the route is permitted to the client, and this is its standing.
-- None: the route is not permitted to the client, or the other route outdoes it.
abbrev pub Contends : Plan → ℕ → SentRoute → Option Standing → Option Standing → Type 0
Contends plan client one other (Some standing) =
    IsTrue (is_sent_to plan client one) × (standing ≡ standing_of plan one)
Contends plan client one other None =
    IsFalse (is_sent_to plan client one) ⊎ IsOutdone (standing_of plan one) other

-- places of routes that may be candidates in a list; the client's choice among these routes is the choice among all its
-- candidates
pub record AreContenders (plan : Plan) (client : ℕ) (held : List HeldRoute) (places : List ℕ) : Type 0 where
  pub within : ArePlaces held places
  pub fit : AreCandidates (chosen_of held places)
  pub same : choice (standing_of plan) (sents_at held places)
      ≡ chosen_for plan client (taken_in held)
