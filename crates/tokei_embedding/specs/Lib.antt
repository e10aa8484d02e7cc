-- What contracts say of the blocks that hold a text of another language, of where none opens, and
-- of captures.
pub mod BlockLaws
pub mod Captures
pub mod DocComments
pub mod Fences
pub mod NextOpenings
pub mod Remembered
pub mod Searches
pub mod Seen
pub mod Spans
pub mod TagSearches
pub mod Tags
pub mod TargetBlocks
