pub mod Cores
pub mod Seen
