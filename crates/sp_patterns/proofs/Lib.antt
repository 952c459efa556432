pub mod Held
pub mod Symbols
pub mod Trees
pub mod Values
pub mod WalkLemmas
