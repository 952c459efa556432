pub mod DumpLemmas
pub mod IdentifierLemmas
pub mod ListLemmas
pub mod RunLemmas
