pub mod Hashing
pub mod Filling
pub mod Coming
