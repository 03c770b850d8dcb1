-- The attributes that are found in a section, by their types.
pub mod FindLemmas
