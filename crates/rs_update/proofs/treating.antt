-- What RFC 7606 does in place of a fault, beside RFC 4271.
pub mod HandlingLemmas
pub mod AgreeLemmas
pub mod TreatingLemmas
