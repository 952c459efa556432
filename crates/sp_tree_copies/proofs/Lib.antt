mod Asking
mod Emitting
mod Ending
mod Nexting
mod Nodes
mod Owned
pub mod Slots
mod Stepping
mod Tables
mod Walking
