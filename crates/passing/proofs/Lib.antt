-- The laws of passing.
pub mod PassingLaws
pub mod QuickLaws
