-- The written form of attributes: it is a section without fault, and is read as the same attributes.
pub mod KeptLemmas
pub mod WrittenLemmas
pub mod BoundLemmas
pub mod AgainLemmas
