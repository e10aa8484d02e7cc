-- What contracts say of a call of the program: its surroundings, what its command line names, how it
-- ends, and what is said of it.
pub mod Configs
pub mod Directories
pub mod Earlier
pub mod Endings
pub mod FlawLines
pub mod Messages
pub mod NoteLines
pub mod NotesText
pub mod OutputEndings
pub mod Roots
pub mod Shown
pub mod Statuses
pub mod Tables
pub mod Types
