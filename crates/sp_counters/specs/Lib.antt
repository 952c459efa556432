pub mod Counting
pub mod Fits
pub mod Pieces
pub mod Laws
