-- What contracts say of a language's row, of numbers of lines, and of blanks, trims, slices and
-- openers.
pub mod Bytes
pub mod Counts
pub mod FirstOpener
pub mod FirstRows
pub mod NewRow
pub mod OuterLines
pub mod Row
pub mod RowOf
pub mod Slices
pub mod Sound
pub mod TrimLaws
