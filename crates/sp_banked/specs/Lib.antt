pub mod Readers
pub mod Fits
pub mod Runs
pub mod Laws
pub mod Examples
