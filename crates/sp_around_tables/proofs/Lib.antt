mod Entries
mod Joining
pub mod Standing
