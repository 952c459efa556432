pub mod Crossings
pub mod Names
pub mod Tree
