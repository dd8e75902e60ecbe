pub mod Bytes
pub mod Controls
pub mod Reader
pub mod Grounded
pub mod Cursors
pub mod Law
