-- The tree that stands for a state, and what giving and undoing a route leave of it.
pub mod Winners
pub mod Shape
pub mod Undo
pub mod Best
pub mod Searching
pub mod Giving
pub mod Left
pub mod Sound
pub mod PageTrees
pub mod SmallestKeys
