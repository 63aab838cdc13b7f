-- A state that is loaded part by part.
pub mod Loading
pub mod Partial
