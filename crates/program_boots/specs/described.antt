pub mod Files
pub mod FoundFiles
pub mod DescribedMenu
pub mod DescribedMachine
pub mod BootCases
pub mod DistinctNames
