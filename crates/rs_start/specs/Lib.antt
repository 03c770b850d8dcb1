-- What is written of a table:
pub mod RightFlags  -- the flags of its path attributes
pub mod Opening  -- the beginning of a peer's session, record by record
pub mod Laws  -- what it says, read as a session
-- What is read of a table:
pub mod Table  -- the index, and the routes of a prefix
pub mod TableView  -- the same without where it lies in memory
pub mod TableFile  -- the tables that a file has, and the routes of each peer in one
pub mod TableReading  -- a file that is being read
pub mod Tables  -- which of its tables is taken
-- How it is written:
pub mod Writing  -- one that is being written
pub mod Joins  -- how its UPDATE is filled
pub mod HeldView  -- its UPDATE that is being filled, by its fields
pub mod Counting  -- how entries and records are counted
pub mod Sessions  -- the sessions that a table is read into
-- What the contracts name of the crates below:
pub use Rattle.byteorder.specs.Endian
pub use Rattle.rs_mrt.specs.Reader
pub use Rattle.rs_mrt.specs.Record
pub use Rattle.rs_mrt.specs.Stream
pub use Rattle.rs_session.specs.FileChanges
