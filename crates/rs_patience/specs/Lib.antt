-- What the contracts name of the crates below:
pub use Rattle.rs_ring.specs.Ends
pub use Rattle.rs_ring.specs.Items
