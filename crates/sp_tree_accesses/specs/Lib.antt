pub mod Accesses
pub mod Laws
pub mod Queued
pub mod Walks
