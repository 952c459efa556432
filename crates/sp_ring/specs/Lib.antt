pub mod Places
pub mod Rings
pub mod Laws
pub mod Examples
