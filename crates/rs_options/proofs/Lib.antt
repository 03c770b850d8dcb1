pub mod WordLemmas
pub mod CommandLemmas
