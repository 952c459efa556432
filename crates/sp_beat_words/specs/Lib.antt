pub mod Example
pub mod Fits
pub mod Numbers
pub mod Words
