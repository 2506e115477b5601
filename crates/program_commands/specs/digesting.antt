pub mod PlannedMenu
pub mod Digested
pub mod ImageDigested
