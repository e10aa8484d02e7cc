-- What contracts say of earlier results: reading them, adding them, and the formats of a document.
pub mod Adding
pub mod Bounds
pub mod DocumentTexts
pub mod Formats
pub mod Outcome
pub mod ReadReports
pub mod Reading
