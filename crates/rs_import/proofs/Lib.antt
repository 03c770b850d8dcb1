-- Lemmas on definitions, for the proofs of this crate.
pub mod AlikeLemmas
pub mod BitLemmas
pub mod BlockLemmas
pub mod CoverLemmas
pub mod SearchLemmas
pub mod MemberLemmas
pub mod PathLemmas
pub mod ReachLemmas
pub mod SetLemmas
pub mod SpecificLemmas
pub mod ValidityLemmas
pub mod VrpLemmas
