pub mod Beats
pub mod Copies
pub mod Events
pub mod Example
pub mod Laws
pub mod Lists
pub mod Orders
pub mod Places
