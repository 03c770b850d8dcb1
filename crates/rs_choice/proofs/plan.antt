-- A plan: its faults and its policy.
pub mod PlanLemmas
pub mod PlanLaws
pub mod PolicyLemmas
pub mod PolicyLaws
