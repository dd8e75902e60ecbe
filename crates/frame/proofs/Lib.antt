pub mod Fitting
pub mod Rewrapping
pub mod Rewriting
pub mod Stepping
pub mod Taking
