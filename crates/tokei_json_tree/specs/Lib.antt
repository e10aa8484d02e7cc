-- What contracts say of a JSON text that is read as a tree: the data that the tree stands for.
pub mod Bytes
pub mod Converted
pub mod Emptied
pub mod Numbers
pub mod Ordered
pub mod Orderings
pub mod Reading
pub mod Shapes
pub mod Tokens
pub mod TreeData
pub mod Unordered
pub mod Without
