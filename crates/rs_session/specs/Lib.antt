-- What recorded files mean:
pub mod UpdateChanges  -- what one UPDATE says
pub mod Effect  -- what one record says
pub mod FileChanges  -- what all records of a file say
pub mod Closing  -- where a session closed
pub mod ReasonText  -- the text of why it closed
pub mod Given  -- files as readers give them
pub mod Laws  -- what holds of all of these
-- How a session is read:
pub mod Stage  -- a session that is being read
pub mod Told  -- what a session over a source may tell
pub mod Steps  -- one step of it
pub mod Concerning  -- what is passed over where one prefix is asked for
pub mod Counts  -- records counted
pub mod EffectView  -- the effect of a record by its fields
pub mod PendingView  -- changes not yet given, by their fields
-- What the contracts name of the crates below:
pub use Rattle.rs_change.specs.Change
pub use Rattle.rs_mrt.specs.Entry
pub use Rattle.rs_mrt.specs.Fault
pub use Rattle.rs_mrt.specs.Reader
pub use Rattle.rs_mrt.specs.Record
pub use Rattle.rs_mrt.specs.RecordReading
pub use Rattle.rs_mrt.specs.Source
pub use Rattle.rs_types.specs.Peer
pub use Rattle.rs_update.specs.Concerns
pub use Rattle.rs_update.specs.Covering
pub use Rattle.rs_update.specs.IpPrefix
pub use Rattle.rs_update.specs.Message
pub use Rattle.rs_update.specs.PathAttributes
pub use Rattle.rs_update.specs.Prefix
pub use Rattle.rs_update.specs.PrefixOrder
pub use Rattle.rs_update.specs.Treating
