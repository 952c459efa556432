pub mod BodyAt
pub mod Earlier
pub mod Fits
pub mod OrderLists
pub mod RightTimes
pub mod Sizes
pub mod Turns
