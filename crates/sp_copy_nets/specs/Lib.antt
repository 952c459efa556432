pub mod Fits
pub mod Laws
pub mod Numbers
pub mod Table
