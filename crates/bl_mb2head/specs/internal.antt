pub mod LastTags
