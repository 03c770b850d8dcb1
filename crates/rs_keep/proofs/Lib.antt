pub mod KeepLemmas
pub mod ListingLemmas
pub mod NamesLemmas
pub mod StartedLemmas
pub mod WrittenLemmas
