-- The query of a subproblem, the paths that answer it, and the best of them.
pub mod Task
pub mod Linked
pub mod PrefixPath
pub mod Part
pub mod FirstSteps
pub mod Bounded
pub mod Calls
pub mod Detours
pub mod Stops
