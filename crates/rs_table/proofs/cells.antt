-- The cells of all prefixes, and what a change leaves of them.
pub mod CellsLemmas
pub mod CloseLemmas
pub mod JoinLemmas
