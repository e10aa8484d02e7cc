pub mod Adding
pub mod FoldersAbove
pub mod Placing
pub mod Refusing
pub mod TopEntries
