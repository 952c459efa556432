pub mod Values
pub mod Right
pub mod Acts
pub mod Issues
pub mod Emitted
pub mod Laws
pub mod Examples
