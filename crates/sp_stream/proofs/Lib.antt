pub mod Circles
pub mod BlockLemmas
pub mod Sizes
pub mod StageLemmas
pub mod Ways
pub mod Trails
