-- What contracts say of a table in JSON: its layout, its escapes and its rows.
pub mod Escaped
pub mod Escapes
pub mod Filled
pub mod Flaws
pub mod Layout
pub mod MemberEscapes
pub mod MemberLayout
pub mod Members
pub mod Misfits
pub mod Next
pub mod Outcome
pub mod ReadErrors
pub mod RowLaws
pub mod Rows
pub mod Sentences
