pub mod Bounds
pub mod Direct
pub mod Example
pub mod Laws
pub mod Spans
