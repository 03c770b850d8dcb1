-- The rows of a client's table: which they are, and how they are listed.
pub mod TableLemmas
pub mod SelectionLemmas
pub mod KnownLemmas
pub mod ListingLemmas
