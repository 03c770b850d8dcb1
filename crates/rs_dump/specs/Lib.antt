-- What the standard says of a dump:
pub mod Dump  -- all records of a table
pub mod Laws  -- a dump in the words of the file that it is
-- How it is written:
pub mod UnderWay  -- a dump that is being written
pub mod TableDump  -- one of a table
pub mod TableDumpView  -- the same by its fields
pub mod SideBySide  -- several beside each other
-- What the contracts name of the crates below:
pub use Rattle.rs_choice.specs.Plan
pub use Rattle.rs_mrt.specs.Endian
pub use Rattle.rs_mrt.specs.Record
pub use Rattle.rs_mrt.specs.Stream
pub use Rattle.rs_records.specs.PeerIndex
pub use Rattle.rs_records.specs.Rib
pub use Rattle.rs_table.specs.RouteView
pub use Rattle.rs_table.specs.Table
pub use Rattle.rs_update.specs.Spelling
