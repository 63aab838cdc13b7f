pub mod WordLemmas
pub mod TextLemmas
pub mod HopLemmas
mod Following
pub mod ReadingLemmas
mod SessionRowProofs
pub mod SessionPlaces
