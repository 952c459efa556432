pub mod ElementLemmas
pub mod NumberLemmas
pub mod RunLemmas
pub mod SourceLemmas
pub mod TreeLemmas
