-- What the standard says of records:
pub mod Record  -- records, and those that a file holds
pub mod Entry  -- what a record says of a session
pub mod Fault  -- the numbers of faults
pub mod Bounds  -- how much of a file is read
pub mod Source  -- what a source of records may give
pub mod Leniency  -- a source whose end may cut a record short
pub mod Examples  -- worked examples
-- How octets come and go:
pub mod Reader  -- what a reader may still give
pub mod RecordReading  -- the records of a reader
pub mod Cut  -- a record that the end of its file cuts short
pub mod Places  -- where records begin in their file
pub mod Inflow  -- how they are taken, step by step
pub mod MemoryReading  -- a reader over memory
pub mod Stream  -- what a writer has taken
pub mod Memory  -- a writer over memory
pub mod Device  -- a writer of std's
-- What the contracts name of the crates below:
pub use Rattle.byteorder.specs.Endian
