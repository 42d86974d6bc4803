-- The laws of ranks.
pub mod BitLaws
pub mod SumLaws
pub mod RegionLaws
pub mod LevelLaws
pub mod StoreLaws
pub mod MarkLaws
pub mod KeepLaws
