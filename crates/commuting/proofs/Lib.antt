-- The laws of the commuting sweep in code.
pub mod NodeLaws
pub mod QueueLaws
pub mod TrackLaws
pub mod WalkLaws
pub mod StartLaws
pub mod LoopLaws
pub mod SweepLaws
pub mod AheadLaws
pub mod TurnLaws
pub mod SweptLaws
