-- The cells of a list, and of one list after another.
pub mod MakingLemmas
pub mod SettlingLemmas
