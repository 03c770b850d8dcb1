-- What the tables of all shards are together.
use Rattle.std.specs.Prelude.{◌≡◌, ℕ, List, Some, AllPairs, length, map, slice_get}
use Rattle.rs_choice.specs.Plan.{Plan}
use Rattle.rs_session.specs.Change.{change_of}
use Rattle.rs_change.specs.declared.word.Word.{Word}
use Rattle.rs_table.specs.Content.{TablesContent, rib_of, rib_left}
use Rattle.rs_table.specs.Merge.{AreParts, IsMerged}
use Rattle.rs_router.specs.ShardParts.{IsShardCount, shard_part}
use Rattle.rs_router.specs.Routing.{AreClosed, AreShardParts}
use Rattle.rs_router.specs.declared.routed.Routed.{Routed}
use Rattle.rs_serve.specs.Crew.{AllHold, Charge}

-- tables of a plan, with as many peers as the plan has
pub record IsOfPlan (plan : Plan) (tables : TablesContent) : Type 0 where
  pub plan_is : tables.plan ≡ plan
  pub count : length tables.ribs ≡ length plan.peers

-- The tables of one shard, of so many shards, if these changes were received of each peer. They have what the
-- shard's part of the changes leaves.
pub record IsShardOf (plan : Plan) (received : List (List Word)) (shards shard : ℕ)
    (part : TablesContent) : Type 0 where
  pub of_plan : IsOfPlan plan part
  pub ribs : (peer : ℕ) (words : List Word) → slice_get received peer ≡ Some words
      → rib_of part peer ≡ rib_left (shard_part shards shard (map change_of words))

-- the tables of all shards, if these changes were received of each peer
pub record AreShardsOf (plan : Plan) (received : List (List Word)) (parts : List TablesContent) : Type 0 where
  pub counted : IsShardCount (length parts)
  pub peers : length received ≡ length plan.peers
  pub each : (shard : ℕ) (part : TablesContent) → slice_get parts shard ≡ Some part
      → IsShardOf plan received (length parts) shard part

-- All shards were sent their parts of the changes received, and have taken them into empty tables of the plan. There
-- are as many shards as parts.
pub record IsRun (plan : Plan) (received : List (List Word)) (sent : List (List Routed)) (charges : List Charge)
    (parts : List TablesContent) : Type 0 where
  pub counted : IsShardCount (length sent)
  pub peers : length received ≡ length plan.peers
  pub shards : length charges ≡ length sent
  pub charged : (shard : ℕ) (charge : Charge) → slice_get charges shard ≡ Some charge → IsOfPlan plan charge.tables
  pub closed : AreClosed received
  pub shard_parts : AreShardParts received sent
  pub hold : AllHold charges sent parts

-- if shards have taken all that was sent to them, their tables together are those of all shards
abbrev pub RunShardsAreWhole : Type 0
RunShardsAreWhole =
    (plan : Plan) (received : List (List Word)) (sent : List (List Routed)) (charges : List Charge)
    (parts : List TablesContent) → IsRun plan received sent charges parts
    → AreShardsOf plan received parts

-- The tables of all shards can be merged. In the merged tables each peer has what all changes received of it leave.
abbrev pub ShardsMerge : Type 0
ShardsMerge =
    (plan : Plan) (received : List (List Word)) (parts : List TablesContent) → AreShardsOf plan received parts
    → AllPairs AreParts parts
    × ((merged : TablesContent) → IsMerged parts merged → length merged.ribs ≡ length merged.plan.peers
    → merged ≡ record { plan = plan; ribs = map (λ words. rib_left (map change_of words)) received })
