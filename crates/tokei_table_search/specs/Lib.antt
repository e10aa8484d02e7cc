-- The words of searches. The contracts of callers have only those on the bytes that tell openers.
pub mod NearBytes
pub mod OpenerGroups
pub mod Tellers
