-- Answers to questions after a prefix, and kept answers.
pub mod Law
pub mod Answered
pub mod BoundedWays
pub mod CachedAnswers
