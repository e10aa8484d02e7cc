-- What contracts say of notebooks: their layout, and their cells.
pub mod Cells
pub mod Kept
pub mod Layout
