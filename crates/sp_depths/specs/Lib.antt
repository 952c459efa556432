pub mod Depths
pub mod Laws
pub mod Spread
