pub mod Promised
pub mod Banks
pub mod Ports
pub mod Rows
pub mod Wiring
