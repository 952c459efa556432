pub mod Access
pub mod Bounds
pub mod Classes
pub mod Distances
pub mod Examples
pub mod Groups
pub mod Stages
pub mod Sums
