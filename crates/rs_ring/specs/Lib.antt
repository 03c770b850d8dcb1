-- A ring:
pub mod Items  -- its items
pub mod Ends  -- its ends
pub mod Views  -- the ends by their fields
-- What the contracts name of the crates below:
pub use Rattle.rtrb.specs.Shared
