pub mod Beats
pub mod Example
pub mod Fits
