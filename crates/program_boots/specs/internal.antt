pub mod MenuRows
pub mod FoundEntries
