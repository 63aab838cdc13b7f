pub mod Answers
pub mod Asked
pub mod Calls
pub mod Canonical
pub mod FirstLists
pub mod Lent
pub mod Runs
