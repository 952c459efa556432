pub mod Example
pub mod Framed
pub mod Laws
pub mod Ports
