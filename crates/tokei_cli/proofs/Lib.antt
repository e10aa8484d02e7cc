pub mod Building
pub mod Listing
pub mod NamedTypes
pub mod Reading
pub mod Shown
pub mod Spelling
