pub mod Lists
pub mod Loads
pub mod Moves
pub mod Owners
pub mod Standing
pub mod Scalars
pub mod Transfers
