pub mod questions
pub mod layers
pub mod answers
