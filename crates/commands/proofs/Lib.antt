pub mod WordLemmas
pub mod Explained
pub mod RunLemmas
