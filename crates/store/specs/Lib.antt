pub mod Piles
pub mod Spans
pub mod Stores
pub mod Walks
