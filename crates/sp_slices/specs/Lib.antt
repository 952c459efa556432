pub mod Slices
pub mod Fits
