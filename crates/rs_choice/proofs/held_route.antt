-- Routes as they are stored: their order, their path length and their standing.
pub mod OrderLemmas
pub mod PathLengthLemmas
pub mod EntrantLemmas
