pub mod Plans
pub mod Schemes
pub mod Slots
pub mod Times
