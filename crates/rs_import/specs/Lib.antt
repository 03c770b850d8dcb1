-- What import policy means:
pub mod AsRanges  -- AS numbers by ranges
pub mod Patterns  -- patterns of prefixes
pub mod Rpki  -- origin AS, and validity by RPKI (RFC 6811)
pub mod Import  -- which routes are taken in
pub mod Alike  -- policies that say the same
pub mod Laws  -- laws of them
-- How values are kept:
pub mod ImportView  -- import policy by its fields
pub mod Reaches  -- ranges in order, each with how far those up to it reach
pub mod Bits  -- numbers by bits
pub mod Blocks  -- items in order, by the blocks of their numbers
pub mod Nesting  -- patterns in order, each with the nearest one that covers it
pub mod CoveringView  -- an iterator by the VRPs to come
pub mod VrpsView  -- VRPs by the patterns of their prefixes and by their ASes
-- What the contracts name of the crate below:
pub use Rattle.rs_types.specs.IpPrefix
pub use Rattle.rs_types.specs.PathAttributes
pub use Rattle.rs_types.specs.Covering
pub use Rattle.rs_types.specs.AsPath
pub use Rattle.rs_types.specs.FirstFault
