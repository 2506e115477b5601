pub mod Cells
pub mod PackedCells
pub mod StageTables
pub mod FileSetLaws
