pub mod described_lemmas
pub mod RunLemmas
pub mod digesting_lemmas
pub mod explaining_lemmas
