pub mod fields
pub mod section
pub mod ReplacingLemmas
