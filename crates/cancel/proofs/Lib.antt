-- The laws of the pass in code.
pub mod RepeatLaws
pub mod OutcomeLaws
pub mod EmptyLaws
pub mod AgainLaws
pub mod EntryLaws
pub mod RoundLaws
