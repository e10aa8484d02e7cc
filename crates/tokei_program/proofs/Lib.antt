pub mod Asking
pub mod Jobs
pub mod Leaving
pub mod Reasons
pub mod Shaping
