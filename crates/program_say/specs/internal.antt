pub mod Frames
pub mod CutKernels
pub mod PartSources
