-- What a reader believes of the commuting sweep in code.
pub mod Walking
pub mod Ahead
