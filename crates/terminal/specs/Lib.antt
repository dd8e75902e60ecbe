pub mod Pages
pub mod Calls
pub mod Faults
pub mod Outcomes
pub mod Sizes
pub mod Runs
