-- What a reader believes of a sweep's part in the journal.
pub mod Kinds
pub mod Sweeping
