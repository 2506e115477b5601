pub mod ImageFileFacts
pub mod StatusMessages
pub mod PathFilesFacts
