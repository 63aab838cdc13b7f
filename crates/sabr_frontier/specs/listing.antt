-- Parts, states and steps of a listing.
pub mod Rising
pub mod Tree
pub mod State
pub mod Formed
pub mod Step
pub mod Listing
pub mod Fresh
pub mod Laws
pub mod Rows
