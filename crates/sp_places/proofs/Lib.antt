pub mod Unsigned
pub mod Nets
pub mod SumLemmas
pub mod Leading
pub mod PlaceLemmas
