-- The pass by neighbour groups: how groups are stored, what each step keeps of them, and the choice that they give.
pub mod GroupParts
pub mod ChainLemmas
pub mod GroupLists
pub mod GroupLemmas
pub mod GroupMarks
pub mod GroupChoice
pub mod GroupSettling
