-- Layers by hops, forward and backward, arrivals in order, and the last seconds.
pub mod Lists
pub mod Late
pub mod Settling
pub mod Deadlines
pub mod Picks
pub mod NodeBounds
pub mod Relaxation
pub mod WholeDeadlines
pub mod Events
pub mod Since
