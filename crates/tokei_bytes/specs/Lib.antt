-- What contracts say of bytes: searches for them, the decoding of contents, and where characters
-- begin.
pub mod BitSets
pub mod Boundaries
pub mod ByteSets
pub mod Decoding
pub mod FirstPlace
pub mod Lines
pub mod OneOf
pub mod Pairs
pub mod Slots
