-- What contracts say of the program: its job, its words, what it writes and what it says beside
-- that.
pub mod Beside
pub mod Choices
pub mod Columns
pub mod Jobs
pub mod Leaving
pub mod Reasons
pub mod Shapes
pub mod Words
pub mod Writing
