-- All shards.
use Rattle.std.specs.Prelude.{◌≡◌, ℕ, List, [], Some, IfSome, length, slice_get}
use Rattle.rs_ring.specs.Ends.{Ring}
use Rattle.rs_router.specs.Routing.{EndsLast}
use Rattle.rs_router.specs.declared.routed.Routed.{Routed}
use Rattle.rs_table.specs.Content.{TablesContent, nothing_held, rib_of}
use Rattle.rs_serve.specs.Held.{HoldReceived}
use Rattle.rs_serve.specs.declared.shard_crew.ShardJob.{ShardJob}
use Rattle.rs_serve.specs.declared.shard_crew.ShardOf.{ShardOf}
use Rattle.rs_serve.specs.declared.shard.ShardEnd.{ShardEnd}

-- the work of a shard: its tables, and the ring through which it receives
pub record Charge : Type 0 where
  pub tables : TablesContent
  pub ring : Ring

abbrev pub charge_of : ShardJob → Charge
charge_of job = record { tables = job.tables; ring = job.from.ring }

abbrev pub charged : ShardOf → Charge
charged promise = record { tables = promise.tables.value; ring = promise.from.value.ring }

-- the shard has received nothing, and in its tables no peer has a route or is closed
abbrev pub IsReady : ShardJob → Type 0
IsReady job = (job.from.received ≡ []) × ((peer : ℕ) → rib_of job.tables peer ≡ nothing_held)

-- a shard received all items up to the last one; if it still has tables, they are what these items leave
pub record HasEnded (charge : Charge) (end : ShardEnd) : Type 0 where
  pub tables : IfSome end.tables (HoldReceived charge.tables end.from.received)
  pub ended : EndsLast end.from.received
  pub ring : end.from.ring ≡ charge.ring

-- there is a part for each shard, which is what the items sent to the shard leave
pub record AllHold (charges : List Charge) (sent : List (List Routed)) (parts : List TablesContent) : Type 0 where
  pub count : length parts ≡ length charges
  pub each : (shard : ℕ) (charge : Charge) (items : List Routed) (part : TablesContent)
      → slice_get charges shard ≡ Some charge
      → slice_get sent shard ≡ Some items → slice_get parts shard ≡ Some part → HoldReceived charge.tables items part
