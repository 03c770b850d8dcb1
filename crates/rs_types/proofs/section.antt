-- A section of path attributes: how each attribute is spelled, what holds where none is at fault, and which stand in it by
-- their types.
pub mod ItemLemmas
pub mod KindLemmas
pub mod PlaceLemmas
pub mod ReceivedLemmas
pub mod SoundLemmas
pub mod LookLemmas
