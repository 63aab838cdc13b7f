pub mod ListLemmas
pub mod PlanLemmas
pub mod RouteLemmas
pub mod GroupingLemmas
