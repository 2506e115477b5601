pub mod AttemptResult
pub mod FinishedAttempt
pub mod AwaitedPieces
pub mod AwaitedTickets
