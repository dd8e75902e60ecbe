pub mod Sequences
pub mod Steers
