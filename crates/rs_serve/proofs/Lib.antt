mod ShardPartLemmas
mod CloseLemmas
mod CrewLemmas
mod MergingLemmas
mod RunLemmas
pub mod TakingLemmas
pub mod ListLemmas
mod FileLemmas
pub mod AtHandLemmas
