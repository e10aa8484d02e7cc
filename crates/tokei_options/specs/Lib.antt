-- What contracts say of options: columns to sort by, styles of numbers, and the forms of a stream.
pub mod Forms
pub mod Grouping
pub mod Sorts
pub mod Styles
