mod AnyOrder
mod Measures
pub mod BlobReports
pub mod Copying
pub mod Entries
pub mod Equality
pub mod Ranks
pub mod Refusals
pub mod SameLanguage
pub mod StableSort
pub mod Summing
pub mod TakingBack
