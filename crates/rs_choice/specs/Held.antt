-- Routes as they are stored for decisions.
use Rattle.std.specs.Prelude.{◌≡◌, ◌≢◌, ◌<◌, ◌↔◌, ℕ, ◌&&◌, IfSome, IsTrue, List, filter, length, map, slice_get}
use Rattle.std.specs.Prelude.{slice_index_or, unwrap_or, Some}
use Rattle.std.specs.List.{All}
use Rattle.std.specs.Option.{option_map_or}
use Rattle.rs_types.specs.AsPath.{neighbour_of}
use Rattle.rs_types.specs.IpPrefix.{IpPrefix}
use Rattle.rs_types.specs.PathAttributes.{PathAttributes}
use Rattle.rs_choice.specs.declared.candidate.Standing.{Standing}
use Rattle.rs_choice.specs.declared.held_route.HeldRoute.{HeldRoute}
use Rattle.rs_choice.specs.Candidacy.{is_candidate, is_open_candidate, is_plain_candidate, is_taken_in}
use Rattle.rs_choice.specs.Candidacy.{origin_of_candidacy}
use Rattle.rs_choice.specs.Acceptance.{accepts}
use Rattle.rs_choice.specs.Decision.{SentRoute, no_standing, standing_of}
use Rattle.rs_choice.specs.Eligibility.{is_eligible}
use Rattle.rs_choice.specs.Plan.{Peer, Plan}
use Rattle.rs_choice.specs.Policy.{is_permitted}

-- a stored route without the values that were computed for decisions
abbrev pub sent_of_held : HeldRoute → SentRoute
sent_of_held held = record { peer = held.peer; time = held.time; attributes = held.attributes.value }

-- policy permits a route to every client but its sender (RFC 7947, section 2.3)
abbrev pub IsOpen : Plan → ℕ → PathAttributes → Type 0
IsOpen plan peer attributes =
    (client : ℕ) → client < length plan.peers → client ≢ peer → IsTrue (is_permitted plan client peer attributes)

-- the neighbour AS is the sender's AS, and MED compares as 0 (RFC 4271, section 9.1.2.2, c)
abbrev pub IsPlain : Plan → ℕ → PathAttributes → Type 0
IsPlain plan peer attributes =
    IfSome (slice_get plan.peers peer)
    (λ sender. (neighbour_of attributes.path sender.asn ≡ sender.asn) × (unwrap_or attributes.med 0 ≡ 0))

-- the routes are in strictly ascending order of the numbers of their peers
abbrev pub AscendByPeer : List HeldRoute → Type 0
AscendByPeer held =
    (i j : ℕ) (one : HeldRoute) → i < j → j < length held
    → (slice_index_or held i one).peer < (slice_index_or held j one).peer

-- the route of a peer is at this place
abbrev pub IsAt : List HeldRoute → ℕ → ℕ → Type 0
IsAt held place peer = (one : HeldRoute) × (slice_get held place ≡ Some one) × (one.peer ≡ peer)

-- the stored routes that import policy takes in
abbrev pub taken_in : List HeldRoute → List SentRoute
taken_in held = map sent_of_held (filter (λ one. is_taken_in one.candidacy) held)

-- what is stored of a route says whether import policy takes it in on a prefix; below, that is so of each route
abbrev pub IsTakenBy : Plan → IpPrefix → HeldRoute → Type 0
IsTakenBy plan prefix held =
    is_taken_in held.candidacy ≡ accepts plan held.peer prefix held.attributes.value

abbrev pub AreTakenBy : Plan → IpPrefix → List HeldRoute → Type 0
AreTakenBy plan prefix held = All (IsTakenBy plan prefix) held

-- each stored route may be a candidate
abbrev pub AreCandidates : List HeldRoute → Type 0
AreCandidates held = All (λ one. IsTrue (is_candidate one.candidacy)) held

-- What the decision process compares of a stored route. Preference, identifier and address are the sender's. Path
-- length and origin are stored with the route; neighbour AS and MED are read from its attributes.
abbrev pub standing_with : Peer → HeldRoute → Standing
standing_with sender held = record {
  preference = sender.preference;
  path_length = held.path_length;
  origin = origin_of_candidacy held.candidacy;
  neighbour = neighbour_of held.attributes.value.path sender.asn;
  med = unwrap_or held.attributes.value.med 0;
  id = sender.id;
  address = sender.address;
}

abbrev pub held_standing : Plan → HeldRoute → Standing
held_standing plan held =
    option_map_or (λ sender. standing_with sender held) (slice_get plan.peers held.peer) no_standing

-- a standing with 0 for neighbour AS and MED; all steps but MED give the same result
abbrev pub without_med : Standing → Standing
without_med standing = record standing { neighbour = 0; med = 0 }

-- what is stored of a route is true under a plan; of a route that may be a candidate it is enough for a decision
pub record IsJudged (plan : Plan) (held : HeldRoute) : Type 0 where
  pub known : held.peer < length plan.peers
  pub candidate : is_candidate held.candidacy
      ≡ (is_taken_in held.candidacy && is_eligible plan held.peer held.attributes.value)
  pub unrestricted : IsTrue (is_open_candidate held.candidacy)
      ↔ (IsTrue (is_candidate held.candidacy) × IsOpen plan held.peer held.attributes.value)
  pub plain : IsTrue (is_plain_candidate held.candidacy)
      ↔ (IsTrue (is_candidate held.candidacy) × IsPlain plan held.peer held.attributes.value)
  pub standing : IsTrue (is_candidate held.candidacy) → held_standing plan held ≡ standing_of plan (sent_of_held held)
