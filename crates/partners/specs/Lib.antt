-- What a reader believes of listed pairs.
pub mod Pairs
