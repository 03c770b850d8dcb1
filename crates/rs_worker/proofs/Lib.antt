pub mod TakeLemmas
mod SentLemmas
mod FileLemmas
mod CrewLemmas
