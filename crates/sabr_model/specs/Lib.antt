pub mod plan
pub mod routes
pub mod Order
pub mod Rows
pub mod Laws
pub mod Devices
pub mod Grouping
