-- Routes, candidates and parts.
pub mod Routes
pub mod Listed
pub mod RoutesListed
pub mod Paths
pub mod Prefixes
pub mod Least
pub mod Faults
pub mod Follows
pub mod Waiting
pub mod EveryWay
