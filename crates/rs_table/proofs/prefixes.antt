-- The prefixes on which some peer has left a route.
pub mod HeldLemmas
