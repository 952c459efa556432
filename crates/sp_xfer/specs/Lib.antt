pub mod Moving
pub mod Fits
pub mod Ahead
