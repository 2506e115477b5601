pub mod EntryLemmas
pub mod MenuPlanLemmas
