-- What a reader believes of the answers.
pub mod Answers
