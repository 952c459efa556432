pub mod Loops
pub mod Naming
pub mod Walks
