pub mod Deeds
pub mod Acting
pub mod Naming
pub mod Standing
pub mod Given
pub mod Example
