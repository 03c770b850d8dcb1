-- What was gathered: what each peer has left, and what a change makes of it.
pub mod GatheredLemmas
pub mod GatheringLemmas
