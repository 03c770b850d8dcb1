pub mod Line
pub mod Refusal
pub mod Status
pub mod Unready
-- What the contracts name of the crate below:
pub use Rattle.rs_options.specs.Standard
