-- How many routes each peer has left.
pub mod CountLemmas
