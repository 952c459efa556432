pub mod Rules
pub mod Numbers
pub mod Going
pub mod Answering
pub mod Told
pub mod Allowed
pub mod Walking
pub mod Nodes
pub mod Small
pub mod Indices
pub mod Standing
pub mod AnswerKinds
mod Queued
