-- What is kept of tables, and what the report says of them:
pub mod Kept  -- the dumps of all clients
pub mod StartedDumps  -- for which dumps a writer is out
pub mod TableLines  -- the lines of the report
pub mod Written  -- dumps before they are kept
-- What the contracts name of the crates below:
pub use Rattle.rs_outlet.specs.Outlet
pub use Rattle.rs_outlet.specs.Started
pub use Rattle.rs_table.specs.Table
