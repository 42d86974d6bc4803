-- What a reader believes of the Hadamard sweep in code.
pub mod Firings
pub mod Closings
pub mod Chains
pub mod Placing
