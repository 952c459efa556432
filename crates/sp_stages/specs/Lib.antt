pub mod Chains
pub mod Divided
pub mod Finest
pub mod Parts
pub mod Plans
