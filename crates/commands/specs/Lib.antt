pub mod words
pub mod texts
pub mod runs
