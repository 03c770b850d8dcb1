-- What a configuration sets up:
pub mod Values  -- what its values stand for
pub mod Section  -- a table of it
pub mod Setup  -- the server, the peers and their files
pub mod Recording  -- the files of a peer that are read as one
pub mod Import  -- what it says of import policy
pub mod Lists  -- import policy by its lists
pub mod Known  -- lists that were read, by their paths
pub mod Peers  -- the peers that were read so far
pub mod Fault  -- why it is refused
pub mod Laws  -- what holds of these
