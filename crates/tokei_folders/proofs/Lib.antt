pub mod Contents
pub mod Joining
pub mod LastNames
pub mod ListEnds
pub mod NameOrder
pub mod WholeNames
