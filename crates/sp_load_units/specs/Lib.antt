pub mod Laws
pub mod Ports
pub mod Units
pub mod Walks
