pub mod Finding
pub mod Asking
pub mod Holding
pub mod Reading
pub mod Queued
pub mod Numbered
pub mod Running
pub mod Working
