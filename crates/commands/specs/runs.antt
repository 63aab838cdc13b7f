-- What runs leave on their writers.
pub mod Calls
pub mod SessionRuns
pub mod EveryRun
pub mod RunsInTurn
pub mod Many
pub mod Program
pub mod CallsInTurn
