pub mod Amount
pub mod Paths
pub mod Status
pub mod Texts
-- What the contracts name of the crates below:
pub use Rattle.rs_options.specs.CommandLine
