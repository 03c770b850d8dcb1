-- What a run keeps and reports:
pub mod Recorded  -- what recorded files make of an exchange
pub mod SessionEnd  -- how a session ended
pub mod Report  -- the lines of the report
pub mod Run  -- what a run keeps and reports
pub mod Refusal  -- why sessions can't be read
pub mod RunAnswer  -- what a run answers, by its result
pub mod OverRecords  -- what a run gives of the records that are read
pub mod ReadSo  -- files in memory as sources
-- What the contracts name of the crates below:
pub use Rattle.rs_keep.specs.Kept
pub use Rattle.rs_outlet.specs.Outlet
pub use Rattle.rs_outlet.specs.Started
