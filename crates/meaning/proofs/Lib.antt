-- The laws of what a list does.
pub mod SumLaws
pub mod AmplitudeLaws
pub mod Values
pub mod Operators
pub mod Settle
pub mod Paths
pub mod MatrixLaws
pub mod GateOperators
pub mod Lists
pub mod Placed
pub mod Identities
pub mod AmplitudeIdentities
pub mod Undo
pub mod Examples
