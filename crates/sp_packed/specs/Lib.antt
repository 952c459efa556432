pub mod Elements
pub mod Ownership
pub mod Places
pub mod Words
