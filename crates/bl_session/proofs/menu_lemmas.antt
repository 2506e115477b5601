pub mod OnceLemmas
pub mod MenuLemmas
