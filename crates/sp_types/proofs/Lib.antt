pub mod FindingLemmas
pub mod ScopeLemmas
pub mod LiteralLemmas
pub mod TreeLemmas
pub mod SpanLemmas
pub mod GrowthLemmas
