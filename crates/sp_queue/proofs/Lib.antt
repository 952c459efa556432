pub mod Taken
pub mod First
