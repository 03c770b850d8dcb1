pub mod Opening
-- What the contracts name of the crates below:
pub use Rattle.rs_inventory.specs.OutlinedRecords
pub use Rattle.rs_losses.specs.WithLosses
pub use Rattle.rs_mrt.specs.Leniency
pub use Rattle.rs_mrt.specs.RecordReading
