pub mod Additions
pub mod Failing
pub mod Memory
pub mod Refusals
