pub mod Buildable
pub mod Carries
pub mod Laws
