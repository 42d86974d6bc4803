-- What is promised of a list, a journal and an answer.
pub mod Turns
pub mod Demand
