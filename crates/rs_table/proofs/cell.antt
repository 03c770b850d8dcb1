-- A cell: the routes that peers have on one prefix, and a change of one of them.
pub mod MemberLemmas
pub mod RowLemmas
pub mod HeldLemmas
pub mod PutLemmas
pub mod ChangeLemmas
pub mod PlaceLemmas
pub mod BestLemmas
