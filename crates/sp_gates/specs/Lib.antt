pub mod Nets
pub mod Runs
pub mod Grows
pub mod Bits
pub mod Laws
pub mod Tested
