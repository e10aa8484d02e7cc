-- What contracts say of readers, writers and their faults, and of why an output ended.
pub mod Errors
pub mod FailOnce
pub mod Faults
pub mod Printing
pub mod Reads
