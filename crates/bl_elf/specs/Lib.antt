pub mod Header
pub mod ProgramHeaders
pub mod Elf
pub mod internal
