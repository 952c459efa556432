pub mod CappedLemmas
pub mod ForestLemmas
pub mod LastLemmas
pub mod ListLemmas
pub mod OverLemmas
pub mod Remaining
pub mod RunLemmas
pub mod TreeLemmas
