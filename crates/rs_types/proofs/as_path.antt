-- The value of an AS_PATH: what is asked of its segments.
pub mod PathWalkLemmas
pub mod PathExamples
