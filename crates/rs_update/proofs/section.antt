-- A section of path attributes: its first fault.
pub mod SectionLemmas
pub mod FirstFaultLemmas
pub mod SectionExamples
