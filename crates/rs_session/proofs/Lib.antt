pub mod BesideLemmas
mod EffectLemmas
mod FrontLemmas
mod GivenLemmas
mod LawLemmas
pub mod PrefixLemmas
pub mod FileChangesLemmas
pub mod PassingLemmas
pub mod StageLemmas
