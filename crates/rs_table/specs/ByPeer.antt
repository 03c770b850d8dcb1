-- Routes on one prefix in ascending order of their peers, at most one route of each peer.
use Rattle.std.specs.Prelude.{◌<◌, ◌≤◌, ◌+◌, ℕ, suc, ◌==◌, nat_lt, not, if◌then◌else◌, List, [], ◌∷◌, map, filter}
use Rattle.std.specs.Prelude.{Option, None, Some}
use Rattle.rs_choice.specs.declared.held_route.HeldRoute.{HeldRoute}
use Rattle.rs_choice.specs.Decision.{SentRoute}
use Rattle.rs_choice.specs.Held.{sent_of_held}
use Rattle.rs_table.specs.Left.{RouteLeft}

-- the routes are in ascending order of their peers, at most one of each, and the peers' numbers are from `from` to
-- below `to`
abbrev pub IsRow : ℕ → ℕ → List SentRoute → Type 0
IsRow from to [] = Unit {0}
IsRow from to (route ∷ later) = (from ≤ route.peer) × (route.peer < to) × IsRow (route.peer + 1) to later

-- stored routes are in ascending order of their peers, at most one of each
abbrev pub IsAscending : List HeldRoute → Type 0
IsAscending held = (to : ℕ) × IsRow 0 to (map sent_of_held held)

-- the route of a peer
abbrev pub route_at : List SentRoute → ℕ → Option RouteLeft
route_at [] peer = None
route_at (route ∷ later) peer =
    if route.peer == peer then Some (record { time = route.time; attributes = route.attributes })
    else route_at later peer

-- a list in ascending order of peers with one more member, which replaces a member of the same peer
abbrev pub with_one : {M : Type 0} → (M → ℕ) → List M → M → List M
with_one peer_of [] one = one ∷ []
with_one peer_of (first ∷ later) one =
    if nat_lt (peer_of first) (peer_of one) then first ∷ with_one peer_of later one
    else if peer_of first == peer_of one then one ∷ later
    else one ∷ first ∷ later

-- how many members stand before the member of a peer, or before the place for one
abbrev pub place_of : {M : Type 0} → (M → ℕ) → List M → ℕ → ℕ
place_of peer_of [] peer = 0
place_of peer_of (first ∷ later) peer = if nat_lt (peer_of first) peer then suc (place_of peer_of later peer) else 0

-- the list without the members of a peer
abbrev pub without_one : {M : Type 0} → (M → ℕ) → List M → ℕ → List M
without_one peer_of members peer = filter (λ one. not (peer_of one == peer)) members

-- routes with one more route; below, routes without that of a peer
abbrev pub with_route : List SentRoute → SentRoute → List SentRoute
with_route routes route = with_one (λ one. one.peer) routes route

abbrev pub without_route : List SentRoute → ℕ → List SentRoute
without_route routes peer = without_one (λ one. one.peer) routes peer
