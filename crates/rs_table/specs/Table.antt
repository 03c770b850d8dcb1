-- The route that each client gets on each prefix (RFC 4271, section 9.1; RFC 7947, section 2.3.2.1).
--
-- Export policy comes before the decision, and each client has a decision of its own. So a route that policy refuses
-- to a client hides no other route from that client.
use Rattle.std.specs.Prelude.{◌≡◌, ℕ, ◌==◌, Bool, false, not, if◌then◌else◌, List, map, Option, None, Some}
use Rattle.std.specs.List.{enumerate_from, filter_map, flat_map}
use Rattle.std.specs.List.Sorted.{IsStrictlySortedBy}
use Rattle.std.specs.Option.{option_map, option_map_or}
use Rattle.std.specs.FinMap.{get, find, entries, keys, from_entries}
use Rattle.rs_types.specs.IpPrefix.{IpPrefix}
use Rattle.rs_types.specs.PrefixOrder.{prefix_cmp}
use Rattle.rs_choice.specs.Acceptance.{accepted_among, accepts}
use Rattle.rs_choice.specs.Clients.{candidates_among, chosen_for}
use Rattle.rs_choice.specs.Decision.{SentRoute}
use Rattle.rs_choice.specs.Eligibility.{is_eligible}
use Rattle.rs_choice.specs.Policy.{is_permitted}
use Rattle.rs_table.specs.declared.why.Why.{Why}
use Rattle.rs_table.specs.declared.why.Why.TheVariants.{Own, Absent, Ineligible, Filtered, Refused, Best, Lost}
use Rattle.rs_table.specs.Left.{RouteLeft}
use Rattle.rs_table.specs.Content.{RibContent, TablesContent, rib_of}

-- a route that a peer has left, together with the peer's number
abbrev pub sent_by : ℕ → RouteLeft → SentRoute
sent_by peer route = record { peer = peer; time = route.time; attributes = route.attributes }

-- the route that a peer has left on a prefix
abbrev pub route_from : TablesContent → IpPrefix → ℕ → Option SentRoute
route_from tables prefix peer = option_map (sent_by peer) (get (rib_of tables peer).routes prefix)

-- the routes that peers have left on a prefix, in the order of the peers
abbrev pub routes_on : IpPrefix → List RibContent → List SentRoute
routes_on prefix ribs =
    filter_map (λ (peer, rib). option_map (sent_by peer) (get rib.routes prefix)) (enumerate_from 0 ribs)

-- the routes that peers have left on a prefix and that import policy takes in
abbrev pub accepted_on : TablesContent → IpPrefix → List SentRoute
accepted_on tables prefix = accepted_among tables.plan prefix (routes_on prefix tables.ribs)

-- the candidates of a client for a prefix, and below, its best path: the choice among the candidates
abbrev pub candidates_of : TablesContent → ℕ → IpPrefix → List SentRoute
candidates_of tables client prefix = candidates_among tables.plan client (accepted_on tables prefix)

-- the best path of a client for a prefix: the choice among its candidates
abbrev pub best_of : TablesContent → ℕ → IpPrefix → Option SentRoute
best_of tables client prefix = chosen_for tables.plan client (accepted_on tables prefix)

-- a row of a client's table: a prefix and a route
pub record TableRow : Type 0 where
  pub prefix : IpPrefix
  pub route : SentRoute

abbrev pub entry_of_row : TableRow → IpPrefix × SentRoute
entry_of_row row = (row.prefix, row.route)

-- the route that rows have on a prefix
abbrev pub route_in : List TableRow → IpPrefix → Option SentRoute
route_in rows prefix = find prefix_cmp prefix (map entry_of_row rows)

-- Rows are the table of a client if two things are true. Their prefixes ascend, so that each stands there once. On
-- each prefix they have the route that the client gets, or none if it gets none.
pub record IsTable (tables : TablesContent) (client : ℕ) (rows : List TableRow) : Type 0 where
  pub ascending : IsStrictlySortedBy prefix_cmp (map (λ row. row.prefix) rows)
  pub best : (prefix : IpPrefix) → route_in rows prefix ≡ best_of tables client prefix

-- the prefixes on which some peer has left a route, in ascending order, each once
abbrev pub prefixes_held : List RibContent → List IpPrefix
prefixes_held ribs = keys (from_entries {R = prefix_cmp} (flat_map (λ rib. entries rib.routes) ribs))

-- the table of a client, computed: all prefixes on which the client gets a route, each with this route
unfoldable pub table_of : TablesContent → ℕ → List TableRow
table_of tables client =
    filter_map (λ prefix. option_map (λ route. record { prefix = prefix; route = route })
    (best_of tables client prefix)) (prefixes_held tables.ribs)

-- Why the client gets the route of a peer on a prefix, or why not. The first of these reasons that applies is given.
abbrev pub is_from : ℕ → Option SentRoute → Bool
is_from peer best = option_map_or (λ route. route.peer == peer) best false

abbrev pub why_left : TablesContent → ℕ → ℕ → IpPrefix → Option RouteLeft → Why
why_left tables client peer prefix None = Absent
why_left tables client peer prefix (Some route) =
    if not (is_eligible tables.plan peer route.attributes) then Ineligible
    else if not (accepts tables.plan peer prefix route.attributes) then Filtered
    else if not (is_permitted tables.plan client peer route.attributes) then Refused
    else if is_from peer (best_of tables client prefix) then Best
    else Lost

abbrev pub why_of : TablesContent → ℕ → ℕ → IpPrefix → Why
why_of tables client peer prefix =
    if client == peer then Own else why_left tables client peer prefix (get (rib_of tables peer).routes prefix)
