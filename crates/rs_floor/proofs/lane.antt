-- A lane: one peer's session, its ring, and how far it came.
pub mod SessionLemmas
pub mod LaneLemmas
pub mod LaneStates
