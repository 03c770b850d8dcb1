-- Calls of readers and writers, and the octets that they give and take.
pub mod ReaderLemmas
pub mod StreamLemmas
