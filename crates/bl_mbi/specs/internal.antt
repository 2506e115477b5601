pub mod Appending
pub mod FactsInside
pub mod GroupSizes
pub mod BytesLeft
