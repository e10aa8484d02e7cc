pub mod InOrder
pub mod Known
pub mod Levels
pub mod ReadingBack
pub mod RunDocuments
