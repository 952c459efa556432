pub mod Alone
pub mod Joining
mod Least
pub mod Moving
pub mod Owning
