-- Fields of octets: the parts, numbers and segments that are read of them, one after another.
pub mod PartsLemmas
pub mod ProgressLemmas
pub mod OctetLemmas
pub mod SegmentLemmas
