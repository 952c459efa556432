pub mod Members
pub mod Joins
pub mod Slots
pub mod Fits
