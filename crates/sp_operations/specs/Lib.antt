pub mod Elements
pub mod Running
pub mod Sources
