pub mod Agreeing
pub mod Given
pub mod Trees
