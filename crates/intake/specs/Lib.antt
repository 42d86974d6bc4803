-- What a reader believes of the tests of input.
pub mod Faults
pub mod Tests
