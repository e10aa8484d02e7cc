pub mod Deciding
pub mod ExtendedLength
pub mod ReadFiles
pub mod UnreadNotes
