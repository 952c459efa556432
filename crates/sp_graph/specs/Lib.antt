pub mod Components
pub mod Edges
pub mod Search
