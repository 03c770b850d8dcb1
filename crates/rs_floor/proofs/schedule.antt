-- A schedule in one thread: its lanes as they are opened, their turns, and their end.
pub mod OpeningLemmas
pub mod StepLemmas
pub mod HeldLemmas
pub mod ReplayLemmas
