pub mod Change  -- changes of routes
-- What the contracts name of the crate below:
pub use Rattle.rs_types.specs.IpPrefix
pub use Rattle.rs_types.specs.PathAttributes
