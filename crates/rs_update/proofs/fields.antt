-- Fields of octets: the parts and prefixes that are read of them, one after another.
pub mod SplitLemmas
pub mod SpelledParts
pub mod PrefixLemmas
pub mod WrittenPrefix
