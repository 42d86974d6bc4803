-- What a reader believes of gates and records.
pub mod Kinds
pub mod Gates
pub mod Words
pub mod Records
