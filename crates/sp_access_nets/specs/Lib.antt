pub mod Accesses
pub mod Example
pub mod Laws
pub mod Picking
