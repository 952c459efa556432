pub mod Beats
pub mod Sums
pub mod Weights
pub mod Within
