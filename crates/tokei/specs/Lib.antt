-- What contracts say of a run: what it counts, its output, the sums that have to fit, and what it
-- leaves in its writer where one doesn't, or memory ran out.
pub mod Counted
pub mod Earlier
pub mod JobNotes
pub mod JobStreams
pub mod Output
pub mod Refused
pub mod Rows
pub mod Runs
pub mod Shapes
pub mod Streams
pub mod Sums
pub mod Texts
pub mod Written
