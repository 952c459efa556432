pub mod Lists
pub mod Parts
pub mod Refused
pub mod Texts
