-- The laws of questions.
pub mod AskLaws
pub mod BlockerLaws
