pub mod listing
pub mod tree
pub mod session
pub mod loading
