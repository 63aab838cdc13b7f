-- Requests, arrivals, routes and their parts.
pub mod Arrival
pub mod Hops
pub mod Asking
pub mod Route
pub mod Fault
pub mod Following
pub mod Listing
pub mod Journeys
pub mod Parts
pub mod Record
pub mod Telling
