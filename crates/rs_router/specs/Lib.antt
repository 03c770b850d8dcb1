-- The changes of all peers on their way to the shards:
pub mod ShardParts  -- the changes that are a shard's
pub mod RoutedItems  -- what a shard is sent
pub mod Routing  -- what was received and sent
pub mod Delivery  -- one item more
-- What the contracts name of the crates below:
pub use Rattle.rs_ring.specs.Ends
pub use Rattle.rs_ring.specs.Items
pub use Rattle.rs_change.specs.Change
