-- The changes that workers send:
pub mod Worked  -- one worker
pub mod Steps  -- one step of it
pub mod Crew  -- all of them
-- What the contracts name of the crates below:
pub use Rattle.rs_ring.specs.Ends
pub use Rattle.rs_ring.specs.Items
pub use Rattle.rs_session.specs.Change
pub use Rattle.rs_session.specs.FileChanges
pub use Rattle.rs_session.specs.Stage
