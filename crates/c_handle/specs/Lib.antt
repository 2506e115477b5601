pub mod Faults
pub mod Handles
pub mod HandleTold
pub mod SessionSteps
