-- The laws of links.
pub mod WordLaws
pub mod SeekLaws
pub mod RingLaws
pub mod StackLaws
