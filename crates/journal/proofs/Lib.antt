-- The laws of the journal.
pub mod SweepingLaws
pub mod TakenLaws
pub mod WentLaws
