-- The candidates of a client for a prefix, by the values that the decision process compares (RFC 4271, sections
-- 9.1.1 and 9.1.2.2).
use Rattle.std.specs.Prelude.{◌≡◌, ◌<◌, ℕ, List, length, map, Option, None, Some, ◌&&◌, if◌then◌else◌, slice_get}
use Rattle.std.specs.List.{All, Contains}
use Rattle.rs_update.specs.IpPrefix.{IpPrefix}
use Rattle.rs_choice.specs.declared.candidate.Standing.{Standing}
use Rattle.rs_choice.specs.Decision.{standing_of, SentRoute}
use Rattle.rs_choice.specs.Acceptance.{accepts}
use Rattle.rs_choice.specs.Eligibility.{is_eligible}
use Rattle.rs_choice.specs.Plan.{Peer, Plan}
use Rattle.rs_choice.specs.Policy.{is_permitted}
use Rattle.rs_table.specs.Content.{TablesContent}
use Rattle.rs_table.specs.Table.{route_from, candidates_of}
use Rattle.rs_explain.specs.declared.contender.Contender.{Contender}

-- a route as its peer and the values that the decision process compares
abbrev pub contender_of : Plan → SentRoute → Contender
contender_of plan route = record { peer = route.peer; standing = standing_of plan route }

abbrev pub standing_in : Contender → Standing
standing_in one = one.standing

-- the candidates of a client for a prefix
abbrev pub contenders_of : TablesContent → ℕ → IpPrefix → List Contender
contenders_of tables client prefix = map (contender_of tables.plan) (candidates_of tables client prefix)

-- a peer's route on a prefix, if it is a candidate of the client
abbrev pub contender_if : Plan → ℕ → IpPrefix → Option SentRoute → Option Contender
contender_if plan client prefix None = None
contender_if plan client prefix (Some route) =
    if is_eligible plan route.peer route.attributes && (accepts plan route.peer prefix route.attributes
    && is_permitted plan client route.peer route.attributes)
    then Some (contender_of plan route) else None

abbrev pub contender_from : TablesContent → ℕ → IpPrefix → ℕ → Option Contender
contender_from tables client prefix peer = contender_if tables.plan client prefix (route_from tables prefix peer)

-- the candidate is of a peer of the plan, and has this peer's address
abbrev pub HasOwnAddress : Plan → Contender → Type 0
HasOwnAddress plan one =
    (sender : Peer) × (slice_get plan.peers one.peer ≡ Some sender) × (one.standing.address ≡ sender.address)

-- These are the candidates of a client for a prefix. Each is of a peer of the plan, and no candidate is missing.
pub record AreContenders (tables : TablesContent) (client : ℕ) (prefix : IpPrefix) (all : List Contender) : Type 0 where
  pub value : all ≡ contenders_of tables client prefix
  pub addresses : All (HasOwnAddress tables.plan) all
  pub has : (peer : ℕ) → peer < length tables.plan.peers → (one : Contender)
      → contender_from tables client prefix peer ≡ Some one → Contains all one
