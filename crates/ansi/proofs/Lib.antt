pub mod Laws
pub mod Runs
pub mod Scans
pub mod Takes
