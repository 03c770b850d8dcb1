-- The choice among candidates: what each step leaves, and what it rests on (RFC 4271, section 9.1.2.2).
pub mod PlaceLemmas
pub mod LawLemmas
pub mod ScanLemmas
pub mod ShareLemmas
pub mod BehindLemmas
