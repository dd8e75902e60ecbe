pub mod Laid
pub mod Effects
pub mod Joins
