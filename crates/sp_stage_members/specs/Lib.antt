pub mod Circuits
pub mod Example
pub mod Laws
pub mod Members
pub mod Placed
