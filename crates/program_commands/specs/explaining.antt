pub mod BlameConditions
pub mod Explained
