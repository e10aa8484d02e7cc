-- What contracts say of statistics: sums and summaries, when these fit, their laws, and the row of
-- a report.
pub use Rattle.tokei_table_row.specs.Counts
pub mod Ordered
pub mod Overflow
pub mod Places
pub mod ReportRow
pub mod Reports
pub mod Seen
pub mod Shown
pub mod Statistics
pub mod SumLaws
