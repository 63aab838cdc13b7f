-- Pages, and the place of a session.
pub mod Pages
pub mod Verdicts
pub mod LeftSteps
