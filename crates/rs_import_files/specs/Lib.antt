-- What the files of import policy mean:
pub mod Texts  -- AS numbers, prefixes and patterns as texts
pub mod Lines  -- lists as lines of a text
pub mod Files  -- what the octets of a file say
pub mod Faults  -- when a file is refused for what it says
pub mod Csv  -- VRPs as records of CSV
pub mod JsonRows  -- VRPs and lists as JSON
-- How CSV is read:
pub mod Rows  -- a reader of CSV in the middle of its octets
-- What the contracts name of the crates below:
pub use Rattle.rs_types.specs.IpPrefix
