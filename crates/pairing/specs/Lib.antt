-- What a reader believes of the pair sweep in code.
pub mod Ahead
