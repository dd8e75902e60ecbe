pub mod Machine
pub mod Pieces
pub mod Law
pub mod Places
pub mod Reading
pub mod Refusals
pub mod States
