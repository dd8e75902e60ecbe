pub mod Adds
pub mod Pages
pub mod Still
