-- What contracts say of the languages of a run, and of the order of its files.
pub use Rattle.tokei_files.specs.Configs
pub use Rattle.tokei_files.specs.ContentStatistics
pub use Rattle.tokei_files.specs.Faults
pub use Rattle.tokei_files.specs.Files
pub use Rattle.tokei_files.specs.Seen
pub use Rattle.tokei_files.specs.Unread
pub mod OrderLaws
pub mod Runs
pub mod SameButForOrder
