-- The proofs of what is promised.
pub mod SelfInverse
pub mod Apart
pub mod Passing
pub mod EqualSame
pub mod Parting
pub mod Rewrites
pub mod TurnLaws
pub mod Keeps
pub mod DemandProof
pub mod SmallTurns
