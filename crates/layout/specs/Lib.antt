pub mod Frames
pub mod Writing
pub mod Limits
pub mod Tally
pub mod Counting
pub mod Inks
pub mod RowLaw
