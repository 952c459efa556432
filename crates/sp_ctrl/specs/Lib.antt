pub mod Runs
pub mod Fits
