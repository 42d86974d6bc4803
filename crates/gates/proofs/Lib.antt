-- Laws of gates and records.
pub mod Joined
pub mod Table
pub mod KindLaws
pub mod WordLaws
pub mod RecordLaws
pub mod RoundTrip
pub mod StoredLaws
