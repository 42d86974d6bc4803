-- The laws of the Hadamard sweep in code.
pub mod TriedLaws
pub mod FiringLaws
pub mod ClosingLaws
pub mod OpensLaws
pub mod PlacingLaws
pub mod OneWireLaws
pub mod BetweenLaws
pub mod FiredLaws
pub mod WireLaws
pub mod SweptLaws
pub mod ChainLaws
pub mod NotedLaws
pub mod ScanLaws
