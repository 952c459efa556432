mod Circuits
mod Lanes
pub mod Making
mod Once
mod Paired
mod Planned
pub mod Standing
