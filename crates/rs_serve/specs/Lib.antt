-- The tables of shards:
pub mod PartLaws  -- what a part of the changes leaves
pub mod Held  -- one shard
pub mod Crew  -- all of them
pub mod Laws  -- what their tables come to
-- Before the threads:
pub mod AtHand  -- files that are at hand
pub mod Lines  -- rings that are made
-- How a run ends:
pub mod Outcome  -- how it ended
pub mod Run  -- what it leaves
pub mod Served  -- what its tables and sessions are
pub mod ServeAnswer  -- what a run answers, by its result
-- What the contracts name of the crates below:
pub use Rattle.rs_router.specs.ShardParts
pub use Rattle.rs_router.specs.RoutedItems
pub use Rattle.rs_router.specs.Routing
pub use Rattle.rs_router.specs.Delivery
pub use Rattle.rs_table.specs.Content
pub use Rattle.rs_table.specs.Left
pub use Rattle.rs_table.specs.Table
pub use Rattle.rs_ring.specs.Items
pub use Rattle.rs_session.specs.Change
pub use Rattle.rs_session.specs.FileChanges
pub use Rattle.rs_choice.specs.Plan
