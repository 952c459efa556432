pub mod Memories
pub mod Nodes
pub mod Report
