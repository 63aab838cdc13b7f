-- The words of session texts.
pub mod SpacedWords
pub mod SpelledWords
pub mod ReadLists
