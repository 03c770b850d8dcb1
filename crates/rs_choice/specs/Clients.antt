-- The route that each client gets of the routes on one prefix (RFC 4271, section 9.1; RFC 7947, section 2.3.2.1).
--
-- Export policy comes before the decision, and each client has a decision of its own. So a route that policy refuses
-- to a client hides no other route from that client.
use Rattle.std.specs.Prelude.{◌≡◌, ◌≢◌, ◌<◌, ℕ, Bool, IsTrue, List, length, filter, Option, None, Some, slice_get}
use Rattle.std.specs.Prelude.{slice_index_or}
use Rattle.std.specs.Option.{option_map}
use Rattle.rs_types.specs.IpPrefix.{IpPrefix}
use Rattle.rs_choice.specs.Decision.{SentRoute, standing_of, choice}
use Rattle.rs_choice.specs.Eligibility.{is_eligible, is_eligible_from}
use Rattle.rs_choice.specs.Acceptance.{accepts}
use Rattle.rs_choice.specs.Plan.{Peer, Plan}
use Rattle.rs_choice.specs.Policy.{is_permitted, is_permitted_from}

-- export policy permits the route to the client
abbrev pub is_sent_to : Plan → ℕ → SentRoute → Bool
is_sent_to plan client sent = is_permitted plan client sent.peer sent.attributes

-- the eligible routes among the routes on a prefix (RFC 4271, section 9.1.2)
abbrev pub eligible_among : Plan → List SentRoute → List SentRoute
eligible_among plan routes = filter (λ sent. is_eligible plan sent.peer sent.attributes) routes

-- The candidates of a client: the eligible routes on a prefix that export policy permits to the client (RFC 7947,
-- section 2.3). The client's own route is never a candidate. A client that the plan does not have has no candidates.
abbrev pub candidates_among : Plan → ℕ → List SentRoute → List SentRoute
candidates_among plan client routes = filter (is_sent_to plan client) (eligible_among plan routes)

-- a client may get a route on a prefix: it is another peer's, taken in, eligible, and permitted to the client
pub record MayGet (plan : Plan) (prefix : IpPrefix) (client : ℕ) (sent : SentRoute) : Type 0 where
  pub receiver : Peer
  pub sender : Peer
  pub receiver_is : slice_get plan.peers client ≡ Some receiver
  pub sender_is : slice_get plan.peers sent.peer ≡ Some sender
  pub of_another : client ≢ sent.peer
  pub accepted : IsTrue (accepts plan sent.peer prefix sent.attributes)
  pub eligible : IsTrue (is_eligible_from plan.local sender sent.attributes)
  pub permitted : IsTrue (is_permitted_from plan receiver sender sent.attributes)

-- the best path of a client on a prefix: the choice among its candidates
abbrev pub chosen_for : Plan → ℕ → List SentRoute → Option SentRoute
chosen_for plan client routes = choice (standing_of plan) (candidates_among plan client routes)

-- the number of a peer, or the client's own number if there is no peer; the client never gets its own route
abbrev pub peer_or_own : Option ℕ → ℕ → ℕ
peer_or_own None client = client
peer_or_own (Some peer) client = peer

-- the number of the peer whose route the client gets; the client's own number if it gets none
abbrev pub best_peer_for : Plan → ℕ → List SentRoute → ℕ
best_peer_for plan client routes =
    peer_or_own (option_map (λ sent. sent.peer) (chosen_for plan client routes)) client

-- for every client of a plan, the list has the number of the peer whose route the client gets
abbrev pub AreBest : Plan → List SentRoute → List ℕ → Type 0
AreBest plan routes bests =
    (client : ℕ) → client < length plan.peers → slice_index_or bests client 0 ≡ best_peer_for plan client routes
