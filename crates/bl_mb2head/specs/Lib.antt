pub mod Address
pub mod Header
pub mod internal
pub mod HeaderPlace
pub mod Tags
