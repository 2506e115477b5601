pub mod BootSteps
pub mod BootFaults
pub mod Phases
pub mod BootMemory
pub mod Outcome
pub mod Schedules
pub mod Requests
pub mod Submissions
