-- The texts that runs write, except for reports and sessions.
pub mod Messages
pub mod PlanTexts
pub mod ExplanationRows
