-- What a reader believes of the C boundary.
pub mod Boundary
