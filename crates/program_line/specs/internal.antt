pub mod ChosenNames
