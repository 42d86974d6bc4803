-- The laws of the pair sweep in code.
pub mod FoundLaws
pub mod TurnLaws
pub mod LaterLaws
pub mod FirstLaws
