-- Lists of changes, and what they leave.
pub mod ListLemmas
pub mod CompactLemmas
