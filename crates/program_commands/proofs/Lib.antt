pub mod AskedLemmas
pub mod EndLemmas
pub mod EndLaws
pub mod ShownLaws
pub mod ConvertLaws
pub mod DigestLaws
