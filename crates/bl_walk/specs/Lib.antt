pub mod PartBytes
pub mod State
pub mod SeenFacts
pub mod Seen
pub mod Faults
pub mod internal
pub mod EntryShown
