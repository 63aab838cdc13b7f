-- Parts, states and steps of a listing.
pub mod NumbersAfter
pub mod ListMembers
pub mod ClosedTrees
pub mod Division
pub mod NextPlace
pub mod FormedSteps
pub mod ExpectedPrefixes
pub mod AllRoutes
pub mod Lawful
pub mod NewRoutes
