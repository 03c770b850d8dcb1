pub mod DumpExamples
pub mod DumpLemmas
pub mod LawLemmas
pub mod SideLemmas
pub mod TurnLemmas
pub mod UnderWayLemmas
