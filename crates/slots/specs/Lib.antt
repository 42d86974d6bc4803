-- What a reader believes of the slots of a list and of what its words say.
pub mod Slots
pub mod Live
pub mod Nodes
pub mod Keeping
