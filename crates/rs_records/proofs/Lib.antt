pub mod BufferLemmas
pub mod PeerLemmas
pub mod PlanLemmas
pub mod RowLemmas
