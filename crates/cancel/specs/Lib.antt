-- What a reader believes of the pass.
pub mod Cancelling
