-- The laws of loading, changes and the end.
pub mod ForwardLaws
pub mod GoneLaws
pub mod LoadLaws
pub mod PopLaws
pub mod LoadCodeLaws
pub mod DroppedLaws
pub mod RewriteLaws
pub mod FinishLaws
pub mod TrialLaws
pub mod TriedLaws
