-- What each client gets: the choice among its candidates.
pub mod ChosenLemmas
pub mod ContenderLemmas
pub mod ClientLemmas
