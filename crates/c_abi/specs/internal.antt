pub mod Digests
pub mod LoadEnds
pub mod Menus
pub mod Plans
pub mod Tellings
pub mod TakenEntries
