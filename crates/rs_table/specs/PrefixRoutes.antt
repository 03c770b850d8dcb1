-- The routes on one prefix, and the route that each client gets (RFC 4271, section 9.1; RFC 7947, section 2.3).
use Rattle.std.specs.Prelude.{◌≡◌, ◌<◌, ℕ, List, Option, length}
use Rattle.std.specs.Coded.{Coded, coded×, coded_list}
use Rattle.std.specs.Option.{option_map}
use Rattle.rs_types.specs.IpPrefix.{IpPrefix}
use Rattle.rs_choice.specs.Decision.{SentRoute}
use Rattle.rs_table.specs.declared.prefix_routes.PrefixRoutes.{PrefixRoutes}
use Rattle.rs_table.specs.ByPeer.{route_at}
use Rattle.rs_table.specs.Cell.{CellContent, cell_code, routes_in, stored_best}
use Rattle.rs_table.specs.Codes.{prefix_code}
use Rattle.rs_table.specs.Content.{TablesContent}
use Rattle.rs_table.specs.Table.{best_of, route_from, sent_by}

-- a prefix with its cell
abbrev pub entry_of : PrefixRoutes → IpPrefix × CellContent
entry_of routes = (routes.prefix, routes.cell.now)

abbrev pub entries_code : Coded (List (IpPrefix × CellContent))
entries_code = coded_list (coded× prefix_code cell_code)

-- the route of a peer on the prefix, and below, the route that a client gets
abbrev pub route_on : IpPrefix × CellContent → ℕ → Option SentRoute
route_on entry peer = option_map (sent_by peer) (route_at (routes_in entry.1) peer)

abbrev pub best_on : IpPrefix × CellContent → ℕ → Option SentRoute
best_on entry client = stored_best entry.1 client

-- these are the routes that some tables have on the prefix
pub record AreRoutesOf (tables : TablesContent) (entry : IpPrefix × CellContent) : Type 0 where
  pub routes : (peer : ℕ) → peer < length tables.plan.peers → route_on entry peer ≡ route_from tables entry.0 peer
  pub bests : (client : ℕ) → best_on entry client ≡ best_of tables client entry.0
