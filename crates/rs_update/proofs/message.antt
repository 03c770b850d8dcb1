-- A message: its header, its fields, and what it says.
pub mod MarkerLemmas
pub mod MessageLemmas
pub mod RoomLemmas
pub mod ConcernLemmas
pub mod MessageExamples
