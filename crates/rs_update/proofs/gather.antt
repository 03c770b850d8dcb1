-- The attributes that a section gives a route, as a whole.
pub mod WholeLemmas
pub mod ViewLemmas
