pub mod TellLemmas
pub mod ListLemmas
mod NumberLemmas
mod CheckLemmas
pub mod EntryLemmas
mod SeenLemmas
mod SegmentLemmas
mod ProtocolLemmas
