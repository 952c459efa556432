pub mod Served
pub mod Wires
