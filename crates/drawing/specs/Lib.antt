pub mod Painted
pub mod SameRows
pub mod Drawing
pub mod Tries
pub mod Law
