pub mod Capped
pub mod Copies
pub mod Over
pub mod Pieces
pub mod Stages
pub mod Streams
pub mod Tallies
