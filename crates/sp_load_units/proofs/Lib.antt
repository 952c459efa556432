mod Banks
mod Drams
mod Ending
mod Joining
mod Nodes
pub mod Standing
mod Stores
mod Transfers
mod Walking
