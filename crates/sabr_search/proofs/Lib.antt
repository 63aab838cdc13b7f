pub mod WayLemmas
pub mod LinkLemmas
pub mod ForwardLemmas
pub mod BackwardLemmas
pub mod AnswerLemmas
pub mod WholeLemmas
