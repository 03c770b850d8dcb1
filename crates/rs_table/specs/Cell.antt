-- What is stored for one prefix: the routes that peers have left there, and which of them each client gets.
use Rattle.std.specs.Prelude.{◌≡◌, ◌<◌, ◌≤◌, ℕ, ◌==◌, Bool, true, if◌then◌else◌, List, length, map, Option, None}
use Rattle.std.specs.Prelude.{Some, slice_get, slice_index_or, refl}
use Rattle.std.specs.Coded.{Coded, code_by, coded×, coded_ℕ, coded_list}
use Rattle.std.specs.List.{All}
use Rattle.std.specs.Option.{option_map, option_and_then}
use Rattle.rs_choice.specs.contracts.held_route.HeldRoute as held_route
use Rattle.rs_choice.specs.declared.held_route.HeldRoute.{HeldRoute}
use Rattle.rs_choice.specs.Clients.{chosen_for}
use Rattle.rs_choice.specs.Decision.{SentRoute}
use Rattle.rs_choice.specs.Held.{sent_of_held, taken_in, AreTakenBy, IsJudged}
use Rattle.rs_choice.specs.Plan.{Plan}
use Rattle.rs_types.specs.IpPrefix.{IpPrefix}
use Rattle.rs_table.specs.ByPeer.{route_at, IsRow}
use Rattle.rs_table.specs.Table.{sent_by}

-- The routes as they are stored, and for each client the place, among these routes, of the route that it gets. If the
-- client gets no route, there is none at its place, or it is the client's own. It also says how many routes the cell
-- has room for.
pub record CellContent : Type 0 where
  pub held : List HeldRoute
  pub bests : List ℕ
  pub room : ℕ

abbrev pub cell_code : Coded CellContent
cell_code =
    code_by (List HeldRoute × (List ℕ × ℕ))
    (coded× (coded_list held_route.the_row.coded) (coded× (coded_list coded_ℕ) coded_ℕ))
    (λ c. (c.held, (c.bests, c.room))) (λ p. record { held = p.0; bests = p.1.0; room = p.1.1 }) (λ _. refl)

-- the routes without the values that were computed for decisions
abbrev pub routes_in : CellContent → List SentRoute
routes_in cell = map sent_of_held cell.held

-- a route, unless the client itself sent it
abbrev pub unless_own : ℕ → SentRoute → Option SentRoute
unless_own client route = if route.peer == client then None else Some route

-- the route at a place, unless the client itself sent it
abbrev pub got_at : List SentRoute → ℕ → ℕ → Option SentRoute
got_at routes client place = option_and_then (unless_own client) (slice_get routes place)

-- the route that a client gets, by the place that is stored for the client
abbrev pub stored_best : CellContent → ℕ → Option SentRoute
stored_best cell client = option_and_then (got_at (routes_in cell) client) (slice_get cell.bests client)

-- for every client of a plan, the route at its place is the one that the client gets of those that are taken in
abbrev pub AreBestPlaces : Plan → List HeldRoute → List ℕ → Type 0
AreBestPlaces plan held places =
    (client : ℕ) → client < length plan.peers
    → got_at (map sent_of_held held) client (slice_index_or places client 0) ≡ chosen_for plan client (taken_in held)

-- a peer's route is at the place; if the peer has no route, there is no route at the place
abbrev pub IsPlaceOf : List SentRoute → ℕ → ℕ → Type 0
IsPlaceOf routes peer place = slice_get routes place ≡ option_map (sent_by peer) (route_at routes peer)

-- the route of a peer, unless the peer is the client itself
abbrev pub got_from : List SentRoute → ℕ → ℕ → Option SentRoute
got_from routes client peer = if peer == client then None else option_map (sent_by peer) (route_at routes peer)

-- each client gets the same route by its place as by the number of the peer that sent the route
abbrev pub ArePlacesOf : List SentRoute → List ℕ → List ℕ → Type 0
ArePlacesOf routes peers places =
    (client : ℕ) → client < length peers
    → got_at routes client (slice_index_or places client 0) ≡ got_from routes client (slice_index_or peers client 0)

-- routes that are stored on a prefix: at most one of each peer, and what is stored of each route is true
pub record AreHeld (plan : Plan) (held : List HeldRoute) : Type 0 where
  pub row : IsRow 0 (length plan.peers) (map sent_of_held held)
  pub judged : All (IsJudged plan) held

-- a cell before its decisions, with room for a route of every peer; it may have no route
pub record IsUndecided (plan : Plan) (cell : CellContent) : Type 0 where
  pub held : AreHeld plan cell.held
  pub count : length cell.bests ≡ length plan.peers
  pub room : length plan.peers ≤ cell.room

-- A cell of a prefix: it has some route. For each client it has the place of the route that the client gets.
pub record IsCell (plan : Plan) (cell : CellContent) : Type 0 where
  pub held : AreHeld plan cell.held
  pub some : 0 < length cell.held
  pub count : length cell.bests ≡ length plan.peers
  pub best : AreBestPlaces plan cell.held cell.bests

-- a cell of a prefix; if cells keep room, it has room for a route of every peer
pub record IsKeptCell (keeps_room : Bool) (plan : Plan) (cell : CellContent) : Type 0 where
  pub is_cell : IsCell plan cell
  pub room : keeps_room ≡ true → length plan.peers ≤ cell.room

-- A cell on a prefix: what it stores of each route says whether import policy takes the route in there. Below, it keeps
-- room too.
pub record IsCellOn (plan : Plan) (prefix : IpPrefix) (cell : CellContent) : Type 0 where
  pub is_cell : IsCell plan cell
  pub taken : AreTakenBy plan prefix cell.held

pub record IsKeptCellOn (keeps_room : Bool) (plan : Plan) (prefix : IpPrefix) (cell : CellContent) : Type 0 where
  pub is_kept : IsKeptCell keeps_room plan cell
  pub taken : AreTakenBy plan prefix cell.held
