pub mod menu_lemmas
pub mod attempt_lemmas
pub mod session_lemmas
pub mod run_lemmas
