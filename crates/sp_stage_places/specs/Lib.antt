pub mod Arranged
pub mod Laws
pub mod Planned
