-- Lemmas on searches and trims.
pub mod Finds
pub mod Stops
pub mod TrimParts
pub mod Trims
