-- A state that is loaded part by part.
pub mod GhostWalks
pub mod LoadedParts
