mod FieldLemmas
mod FieldTests
mod HeadPut
mod HeadLemmas
mod FrontLemmas
mod FrontRead
mod FrontAgain
mod Listed
pub mod ImageLaws
pub mod KnownLemmas
mod PartLemmas
mod RecordLemmas
mod RegisterLemmas
mod FieldRows
mod WideLemmas
mod RegistersBy
mod RegistersAgain
mod NumbersFound
mod SoundLemmas
mod NoFaultLemmas
mod RegistersFound
mod FoundLemmas
mod TotalLaws
pub mod Inputs
pub mod Ways
pub mod Spelled
pub mod NumberLemmas
pub mod NumbersAgain
pub mod ReadAgain
mod FitLemmas
mod LengthLemmas
