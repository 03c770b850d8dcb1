mod PlaceLemmas
pub mod RoutingLemmas
