-- Runs on threads: their rings, their start and join, and what they serve.
pub mod OpenLemmas
pub mod ServedLemmas
pub mod AllServedLemmas
pub mod FilesServedLemmas
pub mod RunLemmas
pub mod SettleLemmas
