pub mod FrameRoom
pub mod FrameSlots
pub mod SliceMemoryWrites
pub mod SparseWrites
