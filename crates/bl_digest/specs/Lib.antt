pub mod DigestsFacts
pub mod Digests
pub mod Tables
pub mod Ranges
pub mod PlanInSteps
pub mod internal
