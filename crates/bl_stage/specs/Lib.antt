pub mod Staged
pub mod Pieces
pub mod PieceStates
pub mod Ranges
pub mod internal
pub mod Files
