pub mod Accesses
pub mod Chosen
pub mod Groups
pub mod Laws
pub mod Places
pub mod Uses
