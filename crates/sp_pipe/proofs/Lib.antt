mod BitLemmas
mod Kept
mod Cycles
pub mod WordLemmas
mod Acting
mod InTime
mod Computing
mod MaskLemmas
mod Pushing
mod Waiting
mod Worked
