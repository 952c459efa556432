pub mod CopyLemmas
pub mod Holding
pub mod Kept
pub mod Reading
pub mod Waiting
