pub mod MetFrames
