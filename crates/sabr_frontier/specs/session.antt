-- What a session shows.
pub mod LastPage
pub mod Paused
pub mod Session
pub mod Views
