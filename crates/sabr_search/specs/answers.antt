-- What one question leaves for later ones.
pub mod CachedAnswers
pub mod Asked
pub mod SearchCache
pub mod Answers
pub mod AnswerLists
