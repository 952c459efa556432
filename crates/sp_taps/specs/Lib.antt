pub mod Wires
pub mod Stores
pub mod Laws
