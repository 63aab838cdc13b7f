-- Lists, and numbers in them.
pub mod Begins
pub mod Members
pub mod Ordered
pub mod Answered
pub mod Has
pub mod Apart
pub mod Different
pub mod CountWalks
pub mod Names
pub mod WrittenTexts
pub mod ReadTexts
