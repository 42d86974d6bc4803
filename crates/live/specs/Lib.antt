-- What a reader believes of the live list.
pub mod Filling
pub mod Finished
pub mod Trial
