pub mod Searching
pub mod Times
