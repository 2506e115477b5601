pub mod described
pub mod BootLines
pub mod EntryPlans
pub mod explaining
pub mod internal
