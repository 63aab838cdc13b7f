pub mod Names
pub mod ListingLemmas
pub mod TreeLemmas
pub mod GivingLemmas
pub mod LoadingLemmas
pub mod SessionLemmas
