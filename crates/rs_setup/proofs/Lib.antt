pub mod FilesLemmas
pub mod KnownLemmas
pub mod NoneLemmas
pub mod SetupLemmas
pub mod SetupUnique
pub mod SlashLemmas
