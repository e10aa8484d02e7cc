pub mod Filling
pub mod Retrying
pub mod Untold
