-- Pages and sessions, and the calls of commands.
pub mod PageTexts
pub mod ManyAnswers
pub mod RunsFollow
pub mod RunsInTurn
pub mod CallsInTurn
