pub mod AnyOrder
pub mod Configured
pub mod Merges
pub mod Permuted
pub mod Running
pub mod Totals
