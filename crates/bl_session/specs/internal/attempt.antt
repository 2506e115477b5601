pub mod AttemptStates
pub mod Cursors
pub mod HandoverSteps
pub mod MissingPieces
