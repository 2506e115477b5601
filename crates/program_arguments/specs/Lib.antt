pub mod CommandLine
pub mod internal
