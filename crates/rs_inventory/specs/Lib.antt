-- What the records of a file are:
pub mod Kind  -- the kinds of records
pub mod Opening  -- what an OPEN tells
pub mod Sessions  -- when sessions came up and went down
pub mod Course  -- how they begin and go on
pub mod Peer  -- what one peer says
pub mod Finding  -- what one record adds
pub mod Outline  -- what it says of a peer
pub mod Told  -- what all records say of one peer
pub mod Times  -- the times and octets of records
pub mod Back  -- where times go back
pub mod Silence  -- a time without any record
pub mod Unnamed  -- losses without an address
pub mod Inventory  -- what all of them hold
pub mod FileOutline  -- what an outline tells of them
pub mod Compression  -- how a compressed file begins
-- How it is read:
pub mod Front  -- a reader whose first octets were taken
pub mod Reading  -- the inventory of a source
pub mod OutlinedRecords  -- an outline that is made meanwhile
