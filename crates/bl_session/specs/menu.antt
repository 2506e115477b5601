pub mod Menu
pub mod MenuFaults
pub mod EntryContents
pub mod AttemptOrder
pub mod NamedFiles
