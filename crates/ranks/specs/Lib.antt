-- What a reader believes of ranks.
pub mod Ranks
