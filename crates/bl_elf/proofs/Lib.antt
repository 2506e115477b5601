pub mod HeaderLemmas
pub mod ProgramLemmas
pub mod FaultLemmas
pub mod SegmentLemmas
pub mod ElfLaws
pub mod TotalLaws
