pub mod Fitting
mod Pushing
pub mod Typing
