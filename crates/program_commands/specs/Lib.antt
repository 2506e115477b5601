pub mod Ends
pub mod MachineMap
pub mod internal
pub mod ReadImage
pub mod Walked
pub mod Converted
pub mod digesting
pub mod explaining
