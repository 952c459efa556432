pub mod Forms
pub mod Indices
pub mod Patterns
pub mod Ranges
