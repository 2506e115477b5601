pub mod SetupLaws
pub mod CheckLaws
