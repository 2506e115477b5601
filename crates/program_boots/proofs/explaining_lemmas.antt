pub mod ExplainLemmas
pub mod DetailLemmas
pub mod NoPlaceLemmas
pub mod RefusedLemmas
pub mod StepLemmas
pub mod ToldLemmas
