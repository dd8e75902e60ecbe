pub mod Counts
pub mod Answers
pub mod Marks
pub mod Drafts
pub mod States
pub mod Examples
pub mod Rewraps
