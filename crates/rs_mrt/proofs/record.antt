-- Records of a file: how it splits into them, and what each says.
pub mod RecordLemmas
pub mod SplitLemmas
pub mod EntryLemmas
