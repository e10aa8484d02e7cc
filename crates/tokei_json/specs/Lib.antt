-- What contracts say of languages, statistics and reports as JSON data.
pub mod CountedObjects
pub mod Document
pub mod LanguageMaps
pub mod Layout
pub mod Members
pub mod ReportData
pub mod Tokens
