pub mod Cells
pub mod Purses
pub mod Screens
pub mod Sizes
