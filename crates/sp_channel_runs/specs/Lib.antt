pub mod Bursts
pub mod Example
