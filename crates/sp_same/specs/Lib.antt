pub mod Counts
pub mod Following
pub mod Laws
pub mod Contents
