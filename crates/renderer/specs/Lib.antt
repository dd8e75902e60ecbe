pub mod Rulings
pub mod Frames
pub mod States
