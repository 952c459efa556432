pub mod Zips
pub mod Kept
pub mod Found
pub mod Writing
