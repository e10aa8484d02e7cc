pub mod BegunStreams
pub mod FileReports
pub mod Filling
pub mod Shaping
pub mod StreamNotes
pub mod WrittenRows
