pub mod Colors
pub mod Attrs
pub mod Styles
pub mod Bytes
pub mod Equality
pub mod Distinct
pub mod Deciding
