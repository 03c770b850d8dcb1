-- Changes in lists.
pub mod RankLemmas
