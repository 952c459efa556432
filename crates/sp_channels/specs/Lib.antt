pub mod Ports
pub mod Units
pub mod Laws
