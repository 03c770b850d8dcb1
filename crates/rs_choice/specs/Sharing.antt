-- What the decisions of all clients share (RFC 7947, section 2.3.2.1).
use Rattle.std.specs.Prelude.{◌≡◌, ◌<◌, ◌⊎◌, ℕ, Bool, IsTrue, List, length, map, filter, Option, None, Some, slice_get}
use Rattle.std.specs.List.{All, Contains}
use Rattle.std.specs.Option.{option_map}
use Rattle.rs_choice.specs.declared.candidate.Placed.{Placed}
use Rattle.rs_choice.specs.declared.clients.Shared.{Shared}
use Rattle.rs_choice.specs.declared.neighbour_groups.Group.{Group}
use Rattle.rs_choice.specs.declared.held_route.HeldRoute.{HeldRoute}
use Rattle.rs_choice.specs.Clients.{eligible_among}
use Rattle.rs_choice.specs.Decision.{SentRoute, standing_of, choice}
use Rattle.rs_choice.specs.Entrants.{chosen_of}
use Rattle.rs_choice.specs.Held.{sent_of_held, taken_in}
use Rattle.rs_choice.specs.Plan.{Plan}

-- each number is a place in a list of routes
abbrev pub ArePlaces : List HeldRoute → List ℕ → Type 0
ArePlaces held places = All (λ place. place < length held) places

-- the routes at some places
abbrev pub sents_at : List HeldRoute → List ℕ → List SentRoute
sents_at held places = map sent_of_held (chosen_of held places)

-- A group of one neighbour AS weighs in the choice if its best route is chosen. It also does if that route removes
-- another one of the group by MED.
abbrev pub IsFirst : Group → Option Placed → Type 0
IsFirst group None = ⊥
IsFirst group (Some first) = group.place ≡ first.place

abbrev pub Weighs : Group → Option Placed → Type 0
Weighs group first = IsTrue group.keeps_out ⊎ IsFirst group first

-- These are places of routes that may be candidates, and the best route of each group that weighs is among them.
pub record AreWeighing (eligible : List ℕ) (groups : List Group) (first : Option Placed)
    (weighing : List ℕ) : Type 0 where
  pub among : All (λ place. Contains eligible place) weighing
  pub all : (i : ℕ) (group : Group) → slice_get groups i ≡ Some group → Weighs group first → (place : ℕ)
      → slice_get eligible group.place ≡ Some place → Contains weighing place

-- A choice among routes rests on some of them: as long as none of these is removed, the choice stays the same,
-- whichever other routes are removed.
abbrev pub RestsOn : Plan → List SentRoute → List SentRoute → Type 0
RestsOn plan set weighing =
    (kept : SentRoute → Bool) → ((route : SentRoute) → Contains weighing route → IsTrue (kept route)) →
    choice (standing_of plan) (filter kept set) ≡ choice (standing_of plan) set

-- What is decided once for all clients: the peer whose route is chosen among all that are taken in and eligible, and the places of the
-- routes on which that choice rests.
pub record IsShared (plan : Plan) (held : List HeldRoute) (shared : Shared) : Type 0 where
  pub peer : shared.peer
      ≡ option_map (λ sent. sent.peer) (choice (standing_of plan) (eligible_among plan (taken_in held)))
  pub weighing : ArePlaces held shared.weighing
  pub rests : RestsOn plan (eligible_among plan (taken_in held)) (sents_at held shared.weighing)
