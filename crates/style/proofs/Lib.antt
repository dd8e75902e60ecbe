pub mod Codes
pub mod Together
