pub mod Addresses
pub mod BootAndMapLines
pub mod FirmwareLines
pub mod WalkLines
pub mod Sought
pub mod PartNames
pub mod DigestLines
pub mod internal
