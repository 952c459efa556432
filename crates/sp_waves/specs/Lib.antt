pub mod Dump
pub mod Identifiers
pub mod Signals
pub mod Text
