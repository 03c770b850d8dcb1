-- Records of a recording that several peers share:
pub mod Own  -- whose a record is, and what a peer hears of a recording
pub mod Batches  -- records on their way from one thread to another
pub mod Reach  -- whom a record concerns
pub mod Telling  -- what the reader tells a peer
pub mod Taking  -- the records that a peer takes
pub mod Lines  -- what goes to one peer
pub mod Reading  -- the reader
pub mod Sharing  -- before anything is read
pub mod Laws  -- what holds of these
-- What the contracts name of the crates below:
pub use Rattle.rs_mrt.specs.Record
pub use Rattle.rs_mrt.specs.Source
