pub mod FreeBytes
