pub mod Outer
pub mod Owned
pub mod Some
