pub mod Causes
pub mod FirstMissing
pub mod Messages
pub mod Showing
pub mod TableTold
pub mod Taken
