-- A source whose end may cut a record short: what its answers say, given those of the other source, and what it shows.
pub mod AnswerLemmas
pub mod WithinLemmas
