pub mod Events
pub mod History
pub mod Stores
pub mod Faithful
pub mod Ledger
pub mod internal
