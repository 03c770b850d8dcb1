-- What the standard says of a dump's records:
pub mod DumpType  -- their Type
pub mod PeerIndex  -- the PEER_INDEX_TABLE record
pub mod Rib  -- a record of one prefix
-- How they are written:
pub mod Buffer  -- records that wait
pub mod RibEntryView  -- a RIB entry by its values
-- What the contracts name of the crates below:
pub use Rattle.rs_choice.specs.Decision
pub use Rattle.rs_choice.specs.Plan
pub use Rattle.rs_mrt.specs.Endian
pub use Rattle.rs_mrt.specs.Record
pub use Rattle.rs_update.specs.Prefix
pub use Rattle.rs_update.specs.Spelling
