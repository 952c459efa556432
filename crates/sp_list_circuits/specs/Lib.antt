pub mod Timed
pub mod Turns
