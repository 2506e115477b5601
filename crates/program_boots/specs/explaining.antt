pub mod Details
pub mod EntrySteps
pub mod ToldBoots
pub mod TextPlaces
pub mod AttemptedEntries
