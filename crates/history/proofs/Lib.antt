pub mod Keeps
pub mod Making
