pub mod Advanced
pub mod Begun
pub mod CellLemmas
pub mod Conflicted
pub mod EndLemmas
pub mod Held
pub mod Looked
pub mod MemoryLemmas
pub mod Outputs
pub mod RowLemmas
pub mod Runs
pub mod Served
pub mod Settled
pub mod SettleLemmas
pub mod Written
pub mod Fresh
pub mod Loads
pub mod GivenLemmas
pub mod Faults
pub mod Counted
pub mod Parts
pub mod Watched
pub mod StepLemmas
pub mod StepWords
pub mod StepNets
pub mod Ordered
pub mod Levelled
mod Placed
mod ShiftLemmas
mod RunLemmas
mod Nets
