pub mod Touches
pub mod Memory
pub mod Queue
pub mod Slices
pub mod Rows
pub mod Counted
