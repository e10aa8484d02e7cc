-- Lemmas on tables.
pub use Rattle.tokei_table_row.proofs.Finds
pub use Rattle.tokei_table_rules.proofs.IsUtf8
pub use Rattle.tokei_table_rules.proofs.RowSound
pub mod ExtendedTables
pub mod Lowered
