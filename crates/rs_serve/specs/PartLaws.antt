-- A law of the definitions.
use Rattle.std.specs.Prelude.{◌≡◌, ◌≢◌, ℕ, List, None}
use Rattle.std.specs.FinMap.{get}
use Rattle.std.specs.List.{list_any}
use Rattle.rs_update.specs.IpPrefix.{IpPrefix}
use Rattle.rs_session.specs.Change.{Change, is_close}
use Rattle.rs_table.specs.Left.{left, is_loss}
use Rattle.rs_router.specs.ShardParts.{IsShardCount, shard_part, shard_of}

-- On a prefix, the part of the prefix's own shard leaves the same route as the whole list, and other parts leave
-- none. Each part has a loss or a close exactly if the list has one.
pub record IsPartsByShards (shards : ℕ) (changes : List Change) : Type 0 where
  pub own : (prefix : IpPrefix)
      → get (left (shard_part shards (shard_of prefix shards) changes)) prefix ≡ get (left changes) prefix
  pub others : (prefix : IpPrefix) (shard : ℕ) → shard ≢ shard_of prefix shards
      → get (left (shard_part shards shard changes)) prefix ≡ None
  pub closes : (shard : ℕ) → list_any is_close (shard_part shards shard changes) ≡ list_any is_close changes
  pub losses : (shard : ℕ) → list_any is_loss (shard_part shards shard changes) ≡ list_any is_loss changes

abbrev pub PartsByShards : Type 0
PartsByShards = (shards : ℕ) → IsShardCount shards → (changes : List Change) → IsPartsByShards shards changes
