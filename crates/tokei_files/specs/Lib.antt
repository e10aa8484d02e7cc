-- What contracts say of one file of a run: its language, its content, its report, and why it has
-- none.
pub mod Configs
pub mod ContentStatistics
pub mod Contents
pub mod Faults
pub mod Files
pub mod Paths
pub mod Seen
pub mod Unread
