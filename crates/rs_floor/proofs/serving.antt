-- Whole runs over files at hand.
pub mod AtHandLemmas
