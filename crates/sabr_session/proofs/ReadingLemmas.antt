-- What reading and verifying a session text come to.
pub mod SessionGivenSoFar
pub mod SessionOutcomes
pub mod ShortStates
pub mod StepsTaken
pub mod Verified
