-- From the goal backward.
pub mod LateLists
pub mod LateMade
pub mod Relaxing
pub mod Whole
