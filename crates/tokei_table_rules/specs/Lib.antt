-- What contracts say of a table's rows: whether they can be counted with, families and openers,
-- further extensions, look-ups.
pub use Rattle.tokei_table_row.specs.Bytes
pub use Rattle.tokei_table_row.specs.FirstRows
pub use Rattle.tokei_table_row.specs.NewRow
pub use Rattle.tokei_table_row.specs.Row
pub use Rattle.tokei_table_row.specs.RowOf
pub use Rattle.tokei_table_row.specs.Sound
pub mod Copies
pub mod Extended
pub mod Fallbacks
pub mod Families
pub mod Indexed
pub mod Lookups
pub mod MetNames
pub mod Openers
pub mod PathSuffixes
pub mod RowNames
pub mod Shebangs
pub mod TextIndex
pub mod Tokens
pub mod Walks
