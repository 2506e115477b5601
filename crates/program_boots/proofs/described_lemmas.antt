pub mod FileLemmas
pub mod NameLemmas
pub mod MenuLemmas
pub mod ValueLemmas
