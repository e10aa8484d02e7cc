pub mod KeptCells
pub mod KeptMembers
pub mod Known
pub mod KnownCells
pub mod Shown
