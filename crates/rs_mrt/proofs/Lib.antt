pub mod ExampleLemmas
pub mod FirstRecord
pub mod PushedLemmas
