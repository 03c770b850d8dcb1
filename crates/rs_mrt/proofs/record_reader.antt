-- Records that are read in pieces: the octets that came, the window, and the next record in it.
pub mod WindowLemmas
pub mod InflowLemmas
pub mod UntilLemmas
pub mod FrontLemmas
pub mod FindLemmas
pub mod AdvanceLemmas
pub mod PlaceLemmas
