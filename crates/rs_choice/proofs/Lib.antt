-- Lemmas on definitions, for the proofs of this crate and of those above, and worked examples.
pub mod Members
pub mod Eliminations
pub mod Examples
pub mod PermitLemmas
mod CandidateLemmas
