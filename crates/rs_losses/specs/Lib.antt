-- Losses that are missing in a recording:
pub mod Losses  -- which records show one, and the records with the losses put in
pub mod WithLosses  -- what a source with losses shows, and how
pub mod Laws  -- what holds of these
-- What the contracts name of the crates below:
pub use Rattle.rs_mrt.specs.Record
pub use Rattle.rs_mrt.specs.RecordReading
pub use Rattle.rs_mrt.specs.Source
