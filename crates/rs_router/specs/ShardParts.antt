-- The part of a list of changes that a shard gets. Our choice: each shard has the prefixes of some first octets.
use Rattle.std.specs.Prelude.{ℕ, ◌≤◌, ◌/◌, ◌%◌, ◌^◌, ◌==◌, Bool, true, List, filter}
use Rattle.rs_types.specs.IpPrefix.{IpPrefix}
use Rattle.rs_change.specs.Change.{Change, ChangeBody, Announced, Withdrawn, Lost, Closed}

-- there are 1 to 16 shards
abbrev pub IsShardCount : ℕ → Type 0
IsShardCount shards = (1 ≤ shards) × (shards ≤ 16)

-- the first octet of a prefix's address
abbrev pub first_octet : IpPrefix → ℕ
first_octet prefix = prefix.address / 2 ^ 24

-- the shard that has the routes of a prefix
abbrev pub shard_of : IpPrefix → ℕ → ℕ
shard_of prefix shards = first_octet prefix % shards

-- a shard gets the changes on its prefixes, and those on no prefix: the losses and closes of sessions
abbrev pub gets_body : ℕ → ℕ → ChangeBody → Bool
gets_body shards shard (Announced prefix attributes) = shard_of prefix shards == shard
gets_body shards shard (Withdrawn prefix) = shard_of prefix shards == shard
gets_body shards shard Lost = true
gets_body shards shard (Closed reason) = true

abbrev pub gets : ℕ → ℕ → Change → Bool
gets shards shard change = gets_body shards shard change.body

-- the part of a list that one of so many shards gets
abbrev pub shard_part : ℕ → ℕ → List Change → List Change
shard_part shards shard changes = filter (gets shards shard) changes
