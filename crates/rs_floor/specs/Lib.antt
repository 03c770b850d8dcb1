-- One thread, step by step:
pub mod Lane  -- one peer: its session and its ring
pub mod Schedule  -- its two counts
pub mod Steps  -- tables beside the lanes
pub mod FloorContent  -- the end of a schedule
pub mod LaneView  -- a lane by its fields
pub mod Laws  -- what holds of these, and of the dumps
-- On threads:
pub mod ServeFiles  -- what a run answers over files at hand
pub use Rattle.rs_serve.specs.ServeAnswer
pub use Rattle.rs_serve.specs.Served
pub use Rattle.rs_serve.specs.Outcome
-- What the contracts name of the crates below:
pub use Rattle.rs_table.specs.Content
pub use Rattle.rs_table.specs.Left
pub use Rattle.rs_table.specs.Table
pub use Rattle.rs_ring.specs.Items
pub use Rattle.rs_session.specs.Change
pub use Rattle.rs_session.specs.FileChanges
pub use Rattle.rs_choice.specs.Plan
