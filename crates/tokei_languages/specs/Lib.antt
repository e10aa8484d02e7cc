-- What contracts say of the languages that were counted: how they are added, renewed, summarised
-- and sorted, and laws.
pub mod AnyOrder
pub mod Laws
pub mod Maps
pub mod Merging
pub mod Names
pub mod Renewing
pub mod Seen
pub mod Sorting
pub mod Summaries
pub mod TakenBack
pub mod Values
