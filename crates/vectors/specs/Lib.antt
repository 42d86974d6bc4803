-- What the replay's turns say.
pub mod Turns
