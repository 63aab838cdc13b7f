pub mod Links
pub mod Linking
pub mod Incoming
pub mod Index
pub mod Looks
