-- What a reader believes of slots of the same keys.
pub mod Order
pub mod Passes
