pub mod RunParts
pub mod AnswerSteps
