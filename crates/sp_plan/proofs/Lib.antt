pub mod Kept
pub mod OuterKind
pub mod SiteLemmas
pub mod Trees
pub mod Turns
pub mod UsedNames
pub mod RunLists
pub mod NamedAt
