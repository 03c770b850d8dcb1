-- What a run on threads leaves, once all its threads were joined.
use Rattle.std.specs.Prelude.{◌≡◌, ◌<◌, ◌||◌, ◌⊎◌, ℕ, Bool, true, false, not, List, All, AllPairs, Option, Result, map, length}
use Rattle.std.specs.List.{list_any}
use Rattle.rs_mrt.specs.Record.{MrtRecord}
use Rattle.rs_ring.specs.Ends.{Receiving}
use Rattle.rs_router.specs.Routing.{AreClosed, AreShardParts, received_lists}
use Rattle.rs_router.specs.declared.routed.Routed.{Routed}
use Rattle.rs_session.specs.Change.{is_read}
use Rattle.rs_session.specs.Stage.{Comes}
use Rattle.rs_change.specs.declared.word.Word.{Word}
use Rattle.rs_serve.specs.Crew as shards
use Rattle.rs_serve.specs.Crew.{AllHold}
use Rattle.rs_table.specs.Content.{TablesContent}
use Rattle.rs_table.specs.Merge.{AreParts, IsMerged}
use Rattle.rs_worker.specs.Crew.{AllJoined, Charge}
use Rattle.rs_worker.specs.Worked.{is_memory}
use Rattle.rs_worker.specs.declared.crew.Joined.{Joined}
use Rattle.rs_serve.specs.Outcome.{IsLeastPlace, IsVerdict}
use Rattle.rs_serve.specs.Served.{ServedContent}
use Rattle.rs_serve.specs.declared.ended.PeerEnd.{PeerEnd}
use Rattle.rs_serve.specs.declared.fault.FloorRefused.{FloorRefused}
use Rattle.rs_serve.specs.declared.fault.FloorRefused.TheVariants.{Memory, Unsettled, Capacity, Read, Shards}

-- The changes that receivers and shards took. Of each peer they are its changes up to the close; a settled worker
-- sent no others. Each shard has its part of the changes in its tables, unless it was refused memory or left an item
-- waiting.
pub record HasRun {S : Type 0} (comes : Comes S) (shows : S → Option MrtRecord) (workers : List (Charge S))
    (of_shards : List shards.Charge) (ends : List Joined) (parts : List TablesContent) (whole : Bool) : Type 0 where
  pub receivers : List (Receiving Word)
  pub sent : List (List Routed)
  pub closed : AreClosed (received_lists receivers)
  pub shard_parts : AreShardParts (received_lists receivers) sent
  pub counted : length receivers ≡ length workers
  pub shared : length sent ≡ length of_shards
  pub joined : length ends ≡ length workers
  pub known : AllJoined comes shows workers receivers ends
  pub held : whole ≡ true → AllHold of_shards sent parts

-- the parts can be merged, and have a plan of so many peers
pub record CanMerge (peers : ℕ) (parts : List TablesContent) : Type 0 where
  pub some : 0 < length parts
  pub parts_are : AllPairs AreParts parts
  pub counted : All (λ part. length part.plan.peers ≡ peers) parts

-- a peer's worker settled, was not refused memory, and had no failed read
abbrev pub IsWell : Joined → Type 0
IsWell end = (end.settled ≡ true) × (is_memory end.reason ≡ false) × (is_read end.reason ≡ false)

-- how a peer's session ended, by what its worker answered
abbrev pub end_of : Joined → PeerEnd
end_of end = record { changes = end.changes; passed = end.passed; reason = end.reason }

-- all workers are well, and the parts are merged
pub record IsAnswer (ends : List Joined) (parts : List TablesContent) (whole : Bool)
    (served : ServedContent) : Type 0 where
  pub whole_is : whole ≡ true
  pub well : All IsWell ends
  pub ends_are : served.ends ≡ map end_of ends
  pub merged : IsMerged parts served.tables
  pub one_for_each : length served.tables.ribs ≡ length served.tables.plan.peers

-- A read of this peer's file failed, and no read of a peer before it. No worker was refused memory, and the tables
-- of all shards are there.
pub record IsFirstRead (ends : List Joined) (whole : Bool) (peer : ℕ) : Type 0 where
  pub whole_is : whole ≡ true
  pub remember : All (λ end. is_memory end.reason ≡ false) ends
  pub least : IsLeastPlace true false (map (λ end. is_read end.reason) ends) peer

-- This peer's worker isn't settled, and those of the peers before it are. No worker was refused memory, the tables
-- of all shards are there, and no read failed.
pub record IsFirstUnsettled (ends : List Joined) (whole : Bool) (peer : ℕ) : Type 0 where
  pub whole_is : whole ≡ true
  pub remember : All (λ end. is_memory end.reason ≡ false) ends
  pub read : All (λ end. is_read end.reason ≡ false) ends
  pub least : IsLeastPlace false true (map (λ end. end.settled) ends) peer

-- memory was refused: to a worker, or else to a shard, whose tables are missing
abbrev pub is_out_of_memory : List Joined → Bool → Bool
is_out_of_memory ends whole = list_any (λ end. is_memory end.reason) ends || not whole

-- the verdict on what is known of all workers and shards
abbrev pub IsVerdictOn : List Joined → Bool → Result (Unit {0}) FloorRefused → Type 0
IsVerdictOn ends whole result =
    IsVerdict (is_out_of_memory ends whole) (map (λ end. is_read end.reason) ends) (map (λ end. end.settled) ends) result

-- Why a run is refused after its threads were joined. Memory was refused to a thread. Or all threads are well, and
-- memory was refused to the answer.
abbrev pub IsRefusal : List Joined → Bool → FloorRefused → Type 0
IsRefusal ends whole Memory = (is_out_of_memory ends whole ≡ true) ⊎ ((whole ≡ true) × All IsWell ends)
IsRefusal ends whole (Read peer) = IsFirstRead ends whole peer
IsRefusal ends whole (Unsettled peer) = IsFirstUnsettled ends whole peer
IsRefusal ends whole Capacity = ⊥
IsRefusal ends whole Shards = ⊥
