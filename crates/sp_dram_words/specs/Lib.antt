pub mod Units
pub mod Parts
pub mod Moves
pub mod Laws
pub mod Stores
pub mod Example
