pub mod Affine
pub mod Combination
pub mod Equality
pub mod Interval
