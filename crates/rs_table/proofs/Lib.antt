pub mod ExampleLemmas
pub mod LeftLemmas
pub mod MergeLemmas
pub mod PrefixLemmas
pub mod RibLemmas
pub mod ValueLemmas
