pub mod Sequences
pub mod Pens
pub mod Checks
