pub mod CheckedForm
pub mod FieldWriting
