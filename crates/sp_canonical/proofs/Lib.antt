pub mod Tallies
pub mod Counts
pub mod Limits
pub mod Ascii
pub mod Few
pub mod Narrow
pub mod Reprinted
pub mod Depths
