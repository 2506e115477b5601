pub mod attempt
pub mod session
pub mod runs
