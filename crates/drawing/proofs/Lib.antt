pub mod SameRows
pub mod Going
pub mod Rows
pub mod Redraw
pub mod Idle
pub mod Tries
