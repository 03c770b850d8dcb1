-- Where a client's choice differs between two tables (our choice).
--
-- The peers of two exchanges have numbers of their own, so senders are compared by their names. The times from which
-- a client gets its routes are not compared.
use Rattle.std.specs.Prelude.{◌≡◌, ℕ, ⊤, List, Option, Some, None, MatchOption, slice_get}
use Rattle.std.specs.Option.{option_and_then, option_map}
use Rattle.std.specs.declared.cmp.Ordering.TheVariants.{Less}
use Rattle.rs_update.specs.IpPrefix.{IpPrefix}
use Rattle.rs_update.specs.PathAttributes.{PathAttributes}
use Rattle.rs_update.specs.PrefixOrder.{prefix_cmp}
use Rattle.rs_choice.specs.Decision.{SentRoute}
use Rattle.rs_choice.specs.Plan.{Plan}
use Rattle.rs_table.specs.Content.{TablesContent}
use Rattle.rs_table.specs.RouteView.{sent_route_of}
use Rattle.rs_table.specs.declared.route.Route.{Route}
use Rattle.rs_table.specs.Table.{best_of}
use Rattle.rs_survey.specs.declared.choices.Choices.{Choices}

-- ---- what is compared

-- what is compared of a route: the name of its sender, and its attributes
pub record Choice : Type 0 where
  pub sender : Option (List ℕ)
  pub attributes : PathAttributes

-- the name of the peer of a number
abbrev pub name_of : Plan → ℕ → Option (List ℕ)
name_of plan peer = option_map (λ one. one.name) (slice_get plan.peers peer)

abbrev pub choice_of : Plan → SentRoute → Choice
choice_of plan route = record { sender = name_of plan route.peer; attributes = route.attributes }

-- a client of some tables; None if it is absent from them
pub record ClientOf : Type 0 where
  pub tables : TablesContent
  pub client : Option ℕ

-- the route that the client gets on a prefix (RFC 7947, section 2.3), None if the client is absent; below, what is
-- compared of it
abbrev pub route_of : ClientOf → IpPrefix → Option SentRoute
route_of one prefix = option_and_then (λ client. best_of one.tables client prefix) one.client

abbrev pub chosen : Plan → Option Route → Option Choice
chosen plan route = option_map (choice_of plan) (option_map sent_route_of route)

abbrev pub choice_on : ClientOf → IpPrefix → Option Choice
choice_on one prefix = option_map (choice_of one.tables.plan) (route_of one prefix)

-- ---- the differences, one after another

-- the two clients to be compared, the prefix behind which differences are to come, and the most rows that may come
pub record ToCompare : Type 0 where
  pub before : ClientOf
  pub after : ClientOf
  pub last : Option IpPrefix
  pub left : ℕ

-- a prefix is behind the last one
abbrev pub IsBehind : Option IpPrefix → IpPrefix → Type 0
IsBehind None prefix = ⊤
IsBehind (Some last) prefix = prefix_cmp last prefix ≡ Less

-- both clients get the same route on a prefix
abbrev pub IsSame : ToCompare → IpPrefix → Type 0
IsSame both prefix = choice_on both.before prefix ≡ choice_on both.after prefix

-- A difference is the next one. On its prefix the choices differ, and they agree on each prefix between the last one
-- and this one. It has both routes, and the differences to come are behind it.
pub record IsNextDifference (old new : ToCompare) (one : Choices) : Type 0 where
  pub behind : IsBehind old.last one.prefix
  pub before : option_map sent_route_of one.before ≡ route_of old.before one.prefix
  pub after : option_map sent_route_of one.after ≡ route_of old.after one.prefix
  pub differ : IsSame old one.prefix → ⊥
  pub between : (prefix : IpPrefix) → IsBehind old.last prefix → prefix_cmp prefix one.prefix ≡ Less
      → IsSame old prefix
  pub last : new.last ≡ Some one.prefix

-- the next difference of the two clients; None if their choices agree on all prefixes behind the last one
abbrev pub GivesDifference : ToCompare → Option Choices → ToCompare → Type 0
GivesDifference old result new =
    (new.before ≡ old.before) × (new.after ≡ old.after)
    × MatchOption result ((prefix : IpPrefix) → IsBehind old.last prefix → IsSame old prefix) (IsNextDifference old new)
