pub mod Answers
pub mod Machines
pub mod Sizing
pub mod Steps
pub mod Histories
pub mod Law
