-- The routes that a client of a route server does not get, and why (RFC 4271, section 9.1; RFC 7947, section 2.3).
use Rattle.std.specs.Prelude.{◌≡◌, ℕ, ◌==◌, ◌||◌, if◌then◌else◌, List, length, map, All, Option, None}
use Rattle.std.specs.List.{filter_map, flat_map, range_with_len}
use Rattle.std.specs.Option.{option_map}
use Rattle.rs_update.specs.IpPrefix.{IpPrefix}
use Rattle.rs_choice.specs.Decision.{SentRoute}
use Rattle.rs_table.specs.Content.{TablesContent}
use Rattle.rs_table.specs.RouteView.{sent_route_of}
use Rattle.rs_table.specs.Table.{TableRow, best_of, is_from, prefixes_held, route_from}
use Rattle.rs_explain.specs.Explanations.{IsExplanation}
use Rattle.rs_survey.specs.declared.on_prefix.MissingOn.{MissingOn}
use Rattle.rs_survey.specs.Asked.{is_asked_sender}

-- a peer's route, if it has one; the peer is not the client, and the client does not get this route
abbrev pub missing_among : ℕ → ℕ → Option SentRoute → Option SentRoute → Option SentRoute
missing_among client peer best route = if (peer == client) || is_from peer best then None else route

-- the route that a peer has left on a prefix, if the client does not get it
abbrev pub missing_from : TablesContent → ℕ → IpPrefix → ℕ → Option SentRoute
missing_from tables client prefix peer =
    missing_among client peer (best_of tables client prefix) (route_from tables prefix peer)

-- the route that a peer has left on a prefix, if the client does not get it, and if no other peer is asked for
abbrev pub asked_from : TablesContent → ℕ → Option ℕ → IpPrefix → ℕ → Option SentRoute
asked_from tables client from prefix peer =
    if is_asked_sender from peer then missing_from tables client prefix peer else None

-- The routes on a prefix that a client does not get, in the order of the peers. If a sender is asked for, they are
-- its routes alone.
abbrev pub missing_on : TablesContent → ℕ → Option ℕ → IpPrefix → List SentRoute
missing_on tables client from prefix =
    filter_map (asked_from tables client from prefix) (range_with_len 0 (length tables.plan.peers))

-- the routes that a client does not get on all prefixes, in ascending order of the prefixes
abbrev pub missing_of : TablesContent → ℕ → Option ℕ → List TableRow
missing_of tables client from =
    flat_map (λ prefix. map (λ route. record { prefix = prefix; route = route }) (missing_on tables client from prefix))
    (prefixes_held tables.ribs)

-- the routes on a prefix that the client does not get, each with its explanation
pub record AreMissing (tables : TablesContent) (client : ℕ) (from : Option ℕ) (missing : MissingOn) : Type 0 where
  pub best : option_map sent_route_of missing.best ≡ best_of tables client missing.prefix
  pub routes : map (λ one. sent_route_of one.route) missing.routes.items
      ≡ missing_on tables client from missing.prefix
  pub explained : All (λ one. IsExplanation tables client one.route.peer missing.prefix one.explanation)
      missing.routes.items
