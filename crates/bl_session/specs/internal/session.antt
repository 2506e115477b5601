pub mod KeptPhases
pub mod BootCalls
pub mod PhaseMoves
pub mod Submitted
