pub mod Alike
pub mod Cutting
pub mod Found
pub mod Grow
pub mod Joining
pub mod Sizes
pub mod Walking
