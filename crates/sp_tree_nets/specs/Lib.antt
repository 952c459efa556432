pub mod Emitted
pub mod Handed
pub mod Loops
pub mod Slices
pub mod Stages
pub mod Whole
