-- Contacts, nodes and links of a plan.
pub mod PlanFacts
pub mod Linking
pub mod OverLinks
pub mod Rising
