mod OwnLemmas
mod BatchLemmas
mod DirectoryLemmas
mod TakingLemmas
mod LineLemmas
mod ReadingLemmas
mod TurnLemmas
mod SharingLemmas
