pub mod Moments
pub mod Asked
pub mod Answers
pub mod Registers
pub mod Queues
pub mod Accesses
pub mod Runs
pub mod Example
