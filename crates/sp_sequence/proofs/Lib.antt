pub mod Waiting
pub mod Cycles
pub mod SlotLemmas
