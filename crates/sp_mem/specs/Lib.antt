pub mod Copies
pub mod Fits
pub mod Runs
pub mod Laws
